pub mod PlainCalls
pub mod BufferCalls
pub mod MovingCalls
pub mod InputCalls
pub mod OutputCalls
