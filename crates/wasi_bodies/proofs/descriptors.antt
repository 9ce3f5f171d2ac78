-- Held entries, and positions.
pub mod HeldEntries
pub mod Shifts
