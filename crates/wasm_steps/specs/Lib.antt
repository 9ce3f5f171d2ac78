-- What public contracts cite, in reading order: operators, configurations, steps, how runs end, and which steps take a
-- unit. All that is said of runs rests on these definitions and on what they cite, so they are kept short.
pub mod Operators
pub mod FloatOperators
pub mod Configuration
pub mod Steps
pub mod Outcomes
pub mod Units
