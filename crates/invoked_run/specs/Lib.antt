-- What public contracts cite: `Exports` has which function a name means, and `Calling` what one call of it is, as acts of the
-- instance's life.
pub mod Exports
pub mod Calling
-- Aids of private contracts and of proofs.
pub mod internal
