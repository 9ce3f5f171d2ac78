-- What proofs cite.
mod Words
