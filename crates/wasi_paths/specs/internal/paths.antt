-- Private definitions on the `path_*` calls. `Walks` comes first, since all of them walk a path from an open directory;
-- `Climbing` serves `path_rename` alone.
pub mod Climbing
pub mod Opening
pub mod Removing
pub mod Renaming
pub mod Showing
