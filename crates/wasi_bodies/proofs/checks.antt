-- Checks of a call: what it is where they pass, and that none answers 0 or 29.
pub mod AfterBuffers
pub mod BufferArrays
pub mod CausesOf29
pub mod Chains
pub mod NoneAnswers0
pub mod NoneAnswers29
pub mod Passing
pub mod PlainRowsNever29
