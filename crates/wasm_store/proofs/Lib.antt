pub mod Setting
pub mod Parts
pub mod Functions
pub mod Imports
pub mod Starting
pub mod Constants
pub mod Segments
pub mod Whole
