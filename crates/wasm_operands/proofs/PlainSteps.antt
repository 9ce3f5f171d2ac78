-- The plain machine is flat: each of its steps is steps of the configuration that it stands for.
pub mod Lists
pub mod Stepping
pub mod Moving
pub mod FloatOperands
pub mod AtRest
pub mod Tables
