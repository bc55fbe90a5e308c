pub mod Status
pub mod StatusLaws
