-- Trees, their calls and open volumes as public contracts see them; `internal` serves private contracts, proofs and the
-- invariant of `Volume`. Read from the top: no disk comes in up to `Numbers`, then come images of a volume
-- (`Superblock` to `Fresh`), and last open volumes, and how they are opened.
pub mod Tree
pub mod Space
pub mod Calls
pub mod Laws
pub mod PathLaws
pub mod Stat
pub mod Numbers
pub mod Superblock
pub mod Stands
pub mod Fresh
pub mod Opened
pub mod Clauses
pub mod Stats
pub mod Opening
pub mod Handing
pub mod Parts
pub mod internal
