pub mod Run
pub mod Calls
pub mod Divided
pub mod Fixed
