-- Data sectors, free and taken, as public contracts see them; `internal` serves private contracts and proofs. `Numbers`
-- is on plain lists of numbers and `Alloc` on the allocator, and neither needs the other.
pub mod Numbers
pub mod Alloc
pub mod internal
