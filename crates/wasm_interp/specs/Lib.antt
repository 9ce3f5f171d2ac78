-- What public contracts rest on: the instance of a machine, what a machine shows, and what it promises. `internal`
-- stands before `Machine`, which cites it; all that a caller needs of it is said in `Machine`.
pub mod Stands
pub mod internal
pub mod Machine
pub mod Frames
pub mod Promises
pub mod Promise
pub mod Shared
pub mod Invocations
pub mod Invoking
