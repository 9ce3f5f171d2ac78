-- What public contracts cite: an instance and what its calls do with it, why one is refused, and what holds after any list of them.
pub mod States
pub mod Instance
pub mod Refusals
pub mod Headline
pub mod Deferring
