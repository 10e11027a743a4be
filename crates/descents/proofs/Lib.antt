pub mod PartWithNumber
