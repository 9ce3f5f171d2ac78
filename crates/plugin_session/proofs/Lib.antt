pub mod Headline
pub mod Doing
pub mod Refusing
pub mod Limiting
pub mod Finding
pub mod Counting
pub mod Granting
