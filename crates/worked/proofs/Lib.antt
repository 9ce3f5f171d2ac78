mod Stopping
mod Files
mod Crashing
