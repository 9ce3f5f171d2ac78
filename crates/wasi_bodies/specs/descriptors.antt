-- Calls on descriptors: what they are, where they stand, and how they are closed. `Rows` also has the layouts of
-- `fdstat` and `filestat`, the second of which `path_filestat_get` gives too.
pub mod Rows
