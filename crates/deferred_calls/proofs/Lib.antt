pub mod Whole
pub mod Granting
pub mod Machines
