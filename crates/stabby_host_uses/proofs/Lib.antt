pub mod TwoLemmas
