-- A host: its preopened directories, and what it says of its calls.
pub mod HostAnswers
pub mod Preopens
pub mod LinkedCalls
