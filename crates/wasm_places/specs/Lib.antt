pub mod FunctionTypes
pub mod internal
