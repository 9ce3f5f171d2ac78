-- What private contracts and proofs cite: `Going` has a run in slices on its way.
pub mod Going
