pub mod Room
pub mod Outcome
pub mod OutcomeCalls
pub mod Merger
pub mod ReadBack
