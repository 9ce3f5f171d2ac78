-- Disks, crashes and refusals as public contracts see them, in reading order; `internal` has proved laws, for devices.
-- `Disk` is the model of every honest device, and `Record` to `Memory` describe the devices of this crate by it.
pub mod Disk
pub mod Past
pub mod Fault
pub mod Record
pub mod Crash
pub mod Counting
pub mod Faulty
pub mod Memory
pub mod internal
