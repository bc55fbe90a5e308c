pub mod Compare
pub mod Steps
pub mod Turned
pub mod Laws
pub mod Memory
pub mod MemoryLaws
pub mod Examples
