-- What private contracts, proofs and the invariant of `Volume` say of a volume's parts. Begin with `Parts` (that
-- invariant is its `IsOpen`), then read `Commits` and `Changes`; `Moves` builds on both, and `Removals` on `Changes`.
-- `Climbs` and `Reads` are about opening, and `Formatting` about new volumes.
pub mod Removals
pub mod Moves
pub mod Replacing
pub mod Upgrades
pub mod Climbs
pub mod Reads
pub mod Changes
pub mod Commits
pub mod Formatting
pub mod Slots
pub mod Parts
