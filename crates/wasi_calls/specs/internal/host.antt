-- Private definitions on the host of a guest. `Linking` serves the look-up of an import by its name, and `Preopening`
-- the directories that a guest finds open.
pub mod Linking
pub mod Preopening
