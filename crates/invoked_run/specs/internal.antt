-- What a loop has done so far.
pub mod Going
