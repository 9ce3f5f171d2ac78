-- What public contracts cite, in reading order: the numbers that a host in C is told, supplies, types and volumes, then
-- what a handle has and what calls make of it (`Instances`: of those whose exports are called). `Headline`, `Carried` and `Settled` state the laws over several calls,
-- and `Handles` says what memory a handle owns.
pub mod Telling
pub mod Numbers
pub mod Supplies
pub mod HostTypes
pub mod Host
pub mod Kinds
pub mod Volumes
pub mod Begun
pub mod Finishing
pub mod Sessions
pub mod KeptRecords
pub mod Recording
pub mod Frames
pub mod Refusals
pub mod Instances
pub mod Whole
pub mod Texts
pub mod Headline
pub mod Carried
pub mod Settled
pub mod Handles
