-- Bytes of files, and lists of directories.
pub mod DirectoryLists
pub mod Dirents
pub mod FilledBuffers
pub mod OverlappingBuffers
pub mod ReadCalls
pub mod WriteCalls
