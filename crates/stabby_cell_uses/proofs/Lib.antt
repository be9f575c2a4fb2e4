pub mod CounterLemmas
pub mod JoinLemmas
pub mod CommitLemmas
pub mod StoreLemmas
pub mod FillLemmas
