-- What public contracts cite, in reading order. `Table` is the main part: what the numbers of a guest stand for, and
-- what each of them allows.
pub mod Fault
pub mod Rights
pub mod Table
