-- What private contracts and proofs cite; public contracts do without it: the words of a run, and its module.
pub mod Supplies
pub mod Runnable
