-- What proofs cite.
pub mod Finding
pub mod Going
