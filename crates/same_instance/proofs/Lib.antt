mod Halting
mod Answering
mod Turning
mod Worlds
mod Sameness
mod Beginning
mod Doing
mod Instances
