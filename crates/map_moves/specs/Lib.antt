pub mod Pieces
pub mod Side
