pub mod Counting
pub mod Crash
pub mod Damages
pub mod GoingOn
pub mod Records
pub mod Walks
