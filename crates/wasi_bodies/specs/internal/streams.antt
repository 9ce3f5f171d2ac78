-- Private definitions on standard streams. `Inputs` says which bytes a reader has given, also where it fails in
-- the middle, and `Outputs` which a writer took before it failed.
pub mod Inputs
pub mod Outputs
