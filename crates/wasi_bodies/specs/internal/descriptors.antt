-- Private definitions on descriptors. Only positions need any, since `fd_seek` may ask the volume for the size of a
-- file between its checks.
pub mod Positions
