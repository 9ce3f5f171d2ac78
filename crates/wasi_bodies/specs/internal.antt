-- What private contracts and proofs cite. `Entries` and `Asking` serve several subjects, and each folder serves one.
pub mod Entries
pub mod Asking
pub mod checks
pub mod descriptors
pub mod files
pub mod streams
pub mod paths
