pub mod Entries
pub mod EntriesLaws
pub mod Points
pub mod PointsLaws
pub mod PointsReads
pub mod PointsSteps
