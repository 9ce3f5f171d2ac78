-- What private contracts and proofs cite; public contracts do without it: the seed of a run, its session, a function that is called.
pub mod Seeds
pub mod Sessions
pub mod Invoking
