-- What private contracts and proofs say of the log, and no public one: a commit's steps, and how a batch is kept in
-- memory. Begin with `Batch`: `Steps` uses its `numbers`, and the invariant of `Log` ties `Index` to them.
pub mod Steps
pub mod Index
pub mod Batch
