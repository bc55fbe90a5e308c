pub mod Counted
pub mod Entry
