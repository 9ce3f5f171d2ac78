-- Private definitions on the bytes of files and on lists of directories. `Reading` is the largest: buffers may overlap,
-- and a volume that fails in the middle leaves them half filled.
pub mod Reading
pub mod Writing
pub mod Listing
