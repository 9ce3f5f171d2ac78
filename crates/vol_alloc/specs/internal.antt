-- What private contracts and proofs say of the allocator, and no public contract. It is one module, on the list of free
-- sectors that `Alloc` keeps and hides; the invariant of `Alloc` is stated by it.
pub mod Numbers
