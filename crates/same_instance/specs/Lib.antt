-- What the law cites, in reading order: what whoever embeds an instance does, over any host; what an instance does by it; and that
-- the same module, supplies, volume and actions give the same.
pub mod Turns
pub mod Doing
pub mod SameInstance
