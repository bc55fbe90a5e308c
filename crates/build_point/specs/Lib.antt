pub mod Mappings
pub mod Begin
pub mod Build
pub mod BuildLaws
pub mod Found
pub mod Examples
