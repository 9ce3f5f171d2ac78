-- What private contracts and proofs cite, and the laws that the impls of `Device` hand over. `RamLaws`, `FileLaws` and
-- `RecordedLaws` are for one device each; `Packing` is how sectors in memory are stored, and `InParts` how their parts are joined.
pub mod RamLaws
pub mod FileLaws
pub mod Packing
pub mod InParts
pub mod RecordedLaws
