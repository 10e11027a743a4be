pub mod PartWithSquare
