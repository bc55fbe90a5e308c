pub mod Handing
pub mod Run
