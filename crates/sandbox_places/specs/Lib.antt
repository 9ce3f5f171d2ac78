pub mod Places
pub mod Reading
pub mod System
pub mod Clashing
pub mod FileDisks
