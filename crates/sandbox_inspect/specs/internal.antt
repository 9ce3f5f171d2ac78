-- Definitions that only private contracts and proofs cite. `Views` reads the code's borrowed sections as those of
-- `Places`, `Counting` says which index a module's own function gets, `Starts` what the table of their entries is, `Skipping` what
-- follows an instruction, and `Bodies` what the table of a body's instructions is.
pub mod Views
pub mod Counting
pub mod Starts
pub mod Skipping
pub mod Bodies
