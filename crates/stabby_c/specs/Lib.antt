pub mod Codes
pub mod Clients
pub mod Batches
pub mod Answers
pub mod Handles
pub mod Lending
