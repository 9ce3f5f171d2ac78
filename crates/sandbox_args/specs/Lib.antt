-- What public contracts cite, in reading order. `Request` reads texts out of a run that was asked for, and
-- `CommandLine` ties what is asked for to the words of a command line, by the kit's model of clap.
pub mod Request
pub mod CommandLine
-- Aids of private contracts and of proofs.
pub mod internal
