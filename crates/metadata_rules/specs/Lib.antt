pub mod Cases
pub mod Walk
pub mod Metadata
pub mod Names
pub mod Fold
pub mod Words
pub mod WordsLaws
pub mod Examples
