pub mod Merge
pub mod MergeLaws
pub mod Hints
