-- What private contracts and proofs cite on the calls that walk paths.
pub mod paths
