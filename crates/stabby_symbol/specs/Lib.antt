pub mod Packed
pub mod Unpacked
pub mod Symbols
pub mod Words
pub mod Index
pub mod Laws
