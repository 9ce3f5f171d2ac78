-- What public contracts cite, in reading order: the grammar of the binary format from integers up to `Spells` of
-- `Module`, which `decode` promises at success, and the table of loads and stores (`Accesses`). `Reading` has a part of
-- the grammar as readers from the front, by which `sandbox_inspect` finds sections; `internal` serves private contracts
-- and proofs.
pub mod internal
