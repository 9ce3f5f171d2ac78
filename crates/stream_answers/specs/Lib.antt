pub mod Hearing
pub mod Pieces
pub mod Printing
pub mod System
