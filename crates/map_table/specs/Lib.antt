pub mod Interval
pub mod Places
