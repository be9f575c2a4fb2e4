pub mod BlockLemmas
pub mod LedgerFaults
pub mod PrefixLemmas
pub mod StoredFaults
pub mod StoredLemmas
pub mod Sums
