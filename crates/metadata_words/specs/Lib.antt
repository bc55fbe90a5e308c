pub mod Words
pub mod Over
