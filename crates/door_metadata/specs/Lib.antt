pub mod Merger
pub mod MergerLaws
