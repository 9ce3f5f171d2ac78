-- What runs keep, whatever the guest does. `Confined` is about the entries that a guest can't reach, `Moments`
-- about what a crash may leave, and `Streams` about streams that refuse.
pub mod Confined
pub mod Moments
