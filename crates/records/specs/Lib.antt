pub mod Engine
pub mod Merge
pub mod Hints
