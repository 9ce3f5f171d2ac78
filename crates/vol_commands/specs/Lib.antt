-- What public contracts cite, in reading order; `internal` serves private contracts and proofs. `Formatting`, `Doing`,
-- `Volumes`, `Importing` and `Exporting` have one public call each; `Blame`, `Tasks` and `Changes` are their
-- parts, `Going` is said by each of them, and `Laws` has a law.
pub mod Blame
pub mod Going
pub mod Formatting
pub mod Listing
pub mod Tasks
pub mod Changes
pub mod Replacing
pub mod Laws
pub mod Doing
pub mod Volumes
pub mod Importing
pub mod Exporting
pub mod internal
