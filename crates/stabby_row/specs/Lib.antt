pub mod Rule
pub mod Telling
pub mod Seats
pub mod Inserts
pub mod Passes
pub mod Laws
