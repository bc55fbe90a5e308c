pub mod Wanted
pub mod WantedLaws
