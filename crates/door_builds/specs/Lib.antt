pub mod Build
pub mod Found
