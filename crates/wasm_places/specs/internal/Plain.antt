-- Definitions of the plain machine, which performs one instruction after the other. `Performing` says what instructions
-- make that work only on values and memory, `FlatSteps` what a step within a function makes of the state (`Flat`).
pub mod FlatSteps
