-- What public contracts cite, in reading order. `Counting` stands alone; `Ends` takes its words for faults from
-- `Faults`, and `Reporting` its lines on the end from `Ends`.
pub mod Counting
pub mod Faults
pub mod EndNumbers
pub mod Ends
pub mod Reporting
