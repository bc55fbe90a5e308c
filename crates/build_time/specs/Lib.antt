pub mod OverTime
pub mod OverTimeLaws
pub mod OverTimeMappings
