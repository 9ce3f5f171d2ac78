-- What runs keep.
pub mod Confinement
pub mod EntriesStay
pub mod HostLaws
pub mod Moments
pub mod RowsKeep
pub mod StreamsKeep
