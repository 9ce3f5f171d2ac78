-- What public contracts cite: which numbers words write, and the text of a value.
pub mod Numbers
