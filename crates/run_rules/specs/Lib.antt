pub mod Batch
pub mod Rows
pub mod RowsLaws
pub mod Shown
