pub mod Bytes
pub mod PackedTexts
pub mod WordSpans
pub mod Symbols
pub mod Indexing
