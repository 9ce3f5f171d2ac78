-- What public contracts cite, in reading order: typing of instructions, valid modules, typing by the standard's rules,
-- refusals, where instructions stand in the bytes. `validate` decides `IsValid` unless memory is refused, and a law says
-- that `Typed` of `Typing` holds exactly where `HasType` of `Standard` does; `internal` serves private contracts and
-- proofs.
pub mod Arities
pub mod Typing
pub mod Spaces
pub mod Validity
pub mod Standard
pub mod Refusal
pub mod Offsets
pub mod internal
