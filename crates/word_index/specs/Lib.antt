pub mod Commands
pub mod Listing
pub mod Runs
pub mod Statuses
