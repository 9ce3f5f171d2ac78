-- Definitions that the contracts of the worked theorems cite. `Stored` is the only file: it says what a stop leaves of
-- a volume in memory while a host stores a file there.
pub mod Stored
