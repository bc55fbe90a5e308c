pub mod Arrivals
pub mod Picks
pub mod Sides
pub mod Judge
pub mod Sets
