pub mod PartByPart
pub mod Uncut
