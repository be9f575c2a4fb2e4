pub mod ShelfLemmas
pub mod Places
pub mod PluginLemmas
pub mod Guests
pub mod Endings
pub mod Asking
pub mod Loading
