pub mod Given
pub mod OfName
pub mod Wholly
