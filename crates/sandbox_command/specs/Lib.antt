-- What public contracts cite, in reading order; `internal` serves private contracts and proofs. `Execution` says what
-- the program does on any device and streams, and `Beginning` to `Files` what it does on the files that a command line
-- or a list of tests names.
pub mod Upheld
pub mod Beginning
pub mod Around
pub mod Archive
pub mod Alone
pub mod ListOfTests
pub mod Files
pub mod internal
