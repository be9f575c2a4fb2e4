pub mod DrainLemmas
pub mod Pushing
pub mod Steps
pub mod TurnLemmas
