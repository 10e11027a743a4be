pub mod Admitted
pub mod Refused
pub mod PlaceByPlace
pub mod FirstWrong
pub mod Promises
