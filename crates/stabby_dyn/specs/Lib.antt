pub mod Types
pub mod Handles
pub mod Polls
pub mod Tables
pub mod Items
