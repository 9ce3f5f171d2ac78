-- What private contracts and proofs cite on a list of tests; public contracts do without it.
pub mod Tests
