pub mod AddLemmas
