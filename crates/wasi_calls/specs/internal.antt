-- What private contracts and proofs cite. `Bodies` has what the body of each call that answers says; the folder serves the host.
pub mod Bodies
pub mod host
