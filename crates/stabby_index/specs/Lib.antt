pub mod Rows
pub mod Slots
pub mod Groups
pub mod Versions
pub mod Turns
pub mod Passes
pub mod Applying
pub mod Laws
