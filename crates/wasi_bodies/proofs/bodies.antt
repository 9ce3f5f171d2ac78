-- Bodies of calls, by what they reach.
pub mod Answering
pub mod AskingCalls
pub mod Resting
pub mod VolumeCalls
