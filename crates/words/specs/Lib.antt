pub mod Letters
pub mod Words
pub mod Signed
pub mod Decimal
pub mod Worked
