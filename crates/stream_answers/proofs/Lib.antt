pub mod Handed
pub mod Hearing
pub mod Pieces
mod Told
