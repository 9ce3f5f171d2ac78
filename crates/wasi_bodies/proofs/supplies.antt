-- Texts.
pub mod TextReferences
