-- What public contracts cite. `Tables` is the register of texts; `Status` and `Version` stand alone.
pub mod Tables
pub mod Status
pub mod Version
