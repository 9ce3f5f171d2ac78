pub mod Whole
pub mod Deferring
pub mod Machines
