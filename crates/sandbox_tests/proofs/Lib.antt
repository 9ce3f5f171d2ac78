pub mod Found
mod Told
