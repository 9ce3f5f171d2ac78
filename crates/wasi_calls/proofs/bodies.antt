-- Bodies of calls, by what they reach.
pub mod StreamsHeard
