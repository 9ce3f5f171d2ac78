-- Definitions that only private contracts and proofs cite, and those that `Machine.antt` of `wasm_interp` names. `Plain` is of the
-- plain machine (of which the fast one shares `chosen`), `Fast` of the fast machine alone, `InPlaces` of its loop.
pub mod Plain
pub mod Programmed
pub mod Fast
pub mod InPlaces
pub mod Lookups
