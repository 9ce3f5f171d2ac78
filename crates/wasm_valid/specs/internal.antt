-- Definitions that only private contracts and proofs cite: validation as the code does it. `Rules` is about a module
-- without its bodies, `Stack` to `Bodies` about the walk over a body, `Contexts` and `Answers` about what the code
-- keeps and returns, `Skipping` about the places of instructions in the bytes.
pub mod Rules
pub mod Stack
pub mod Effects
pub mod Blocks
pub mod Operands
pub mod Ends
pub mod Fits
pub mod Bodies
pub mod Contexts
pub mod Answers
pub mod Skipping
