pub mod Entries
pub mod Straight
pub mod Leaves
pub mod Checks
pub mod PartByPart
pub mod Counted
