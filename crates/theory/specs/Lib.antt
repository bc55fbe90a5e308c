pub mod Answer
pub mod Bools
pub mod Bracket
pub mod Fields
pub mod Runs
pub mod RunsTools
pub mod Slices
