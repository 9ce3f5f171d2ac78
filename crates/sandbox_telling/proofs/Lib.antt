pub mod Lines
pub mod Frames
pub mod Answered
