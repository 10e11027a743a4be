pub mod Desk
pub mod Steps
pub mod Pieces
