pub mod Plain
pub mod Scan
pub mod PlainSteps
pub mod Engines
