-- What public contracts cite, in reading order: devices and streams, sessions, runs, tallies, reports and slices, what a crash
-- may leave turn by turn, and in `Headline` what holds after any list of resumes. `internal` serves private contracts,
-- proofs and the invariant of `Session`.
pub mod Devices
pub mod Sessions
pub mod Finishing
pub mod Session
pub mod Pauses
pub mod Within
pub mod Runs
pub mod Tally
pub mod Report
pub mod Slices
pub mod SafeVolumes
pub mod Safety
pub mod Headline
pub mod internal
