pub mod Pieces
pub mod Standing
