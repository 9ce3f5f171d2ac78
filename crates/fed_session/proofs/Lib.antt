mod Branches
mod Waiting
mod Opening
mod Acting
mod Pieces
mod Refusing
mod Wholes
