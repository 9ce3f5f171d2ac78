-- The steps inside the calls on a file, which only private contracts and proofs cite: survey, write, cut, and the
-- pointer sectors in memory. `Writing` builds on `Naming`, and `Truncated` and `Holding` build on `Writing`, so read
-- them in that order.
pub mod Surveying
pub mod Naming
pub mod Truncated
pub mod Writing
pub mod Holding
