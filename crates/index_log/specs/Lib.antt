pub mod Statuses
pub mod Lines
pub mod Printed
pub mod Sessions
pub mod Keeps
pub mod Runs
