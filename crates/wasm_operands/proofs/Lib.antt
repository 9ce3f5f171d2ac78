pub mod Anywhere
pub mod Values
pub mod PlainSteps
pub mod Alike
