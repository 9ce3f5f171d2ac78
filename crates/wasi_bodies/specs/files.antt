-- Calls on the bytes of files and streams, and on lists of directories. `Rows` goes from reads to writes, sizes and
-- syncs, and ends with `fd_readdir`.
pub mod Rows
