pub mod Kinds
pub mod Rights
pub mod Changes
pub mod Lending
pub mod Steps
