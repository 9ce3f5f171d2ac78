-- What public contracts cite, in reading order: values, memory and tables as lists, instances, instantiation, parts of
-- memory that are lent. `Instantiation` is the standard's, `Instantiating` ties the code to it; `Allocating` is of instances
-- without a `_start`; `internal` serves
-- private contracts and proofs.
pub mod Values
pub mod Bytes
pub mod Elements
pub mod Instances
pub mod Instantiation
pub mod NotStarting
pub mod Instantiating
pub mod Allocation
pub mod Allocating
pub mod Lending
pub mod internal
