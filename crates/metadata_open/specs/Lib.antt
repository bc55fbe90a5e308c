pub mod Commit
pub mod Opening
