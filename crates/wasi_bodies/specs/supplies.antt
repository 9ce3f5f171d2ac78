-- Texts, clocks and random bytes: what a guest gets without the volume or a stream. `Random` says which bytes
-- come next, `Texts` which texts can be given, and `Rows` what the calls answer, those of clocks among them.
pub mod Random
pub mod Texts
pub mod Rows
