-- Walks, and the calls on what they reach.
pub mod Below
pub mod OpenCalls
pub mod RenameCalls
pub mod RenameWalks
pub mod Showing
pub mod Walks
pub mod OpenDirectories
pub mod NoneEntered29
