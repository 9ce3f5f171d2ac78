-- What private contracts, proofs and the invariant of `Session` cite. `Faults` turns the reason of a host's or a
-- machine's refusal into the session's, `Tallying` adds one pause to a tally, `Running` has a run before its
-- commit, and `Slicing` a slice before its end.
pub mod Faults
pub mod Tallying
pub mod Running
pub mod Slicing
