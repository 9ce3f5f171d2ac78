-- What private contracts and proofs cite. `Working` is what most functions on an open volume require; `Reaching`,
-- `Lines` and `Changing` serve the functions for paths, for printing and for changes.
pub mod Reaching
pub mod Lines
pub mod Working
pub mod Changing
