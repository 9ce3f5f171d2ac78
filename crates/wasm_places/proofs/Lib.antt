pub mod Typings
pub mod PlainSteps
pub mod FastSteps
pub mod PlaceSteps
pub mod NoneMade
