-- How `Dirs` keeps names in lists of serials, for its invariant, private contracts and proofs, in reading order. `Rising`
-- is on sorted lists of any items, `Key` reads a key back, and `Listing` puts both into the invariant. `Blocks` is for
-- the flags of used slots.
pub mod Rising
pub mod Key
pub mod Listing
pub mod Blocks
