-- Calls on paths. `Rows` has a definition for each, in which every path is walked from the directory that a descriptor
-- stands for.
pub mod Rows
