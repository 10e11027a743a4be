pub mod Same
pub mod Numerals
pub mod Decimals
pub mod Spellings
pub mod Signs
pub mod Promises
