-- What private contracts and proofs cite. `Table` is about building clap's command from the rows of a table, and
-- `Given` about reading a run out of clap's matches.
pub mod Table
pub mod Given
