-- The plain machine is flat: each of its steps is steps of the configuration that it stands for.
pub mod Control
pub mod Branching
pub mod Leaving
pub mod Calling
pub mod Plain
pub mod Floating
pub mod Locals
pub mod Hosting
pub mod Driving
pub mod Working
pub mod Globals
pub mod Entering
pub mod Outside
pub mod Ready
pub mod Performing
pub mod Nexts
