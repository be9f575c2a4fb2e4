pub mod Tables
pub mod Lists
pub mod Shares
pub mod Pieces
pub mod Lines
pub mod Reports
pub mod Laws
