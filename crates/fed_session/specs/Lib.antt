-- What public contracts cite: which calls wait, what is done with an instance, and what holds after any list of that.
pub mod Waiting
pub mod Feeding
pub mod Headline
