-- Definitions that only private contracts and proofs cite. `Finding` has what the steps of `instantiate` promise,
-- before a proof puts them together.
pub mod Finding
