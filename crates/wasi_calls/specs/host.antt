-- The host of a guest: what it is given and made of, which calls it has, and what they mean. The main clause is
-- `HostCalls` in `Worlds`, which ties what a host answers to the rows over worlds.
pub mod Links
pub mod Making
pub mod Wanting
