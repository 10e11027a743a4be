pub mod FieldEnds
pub mod Sequence
