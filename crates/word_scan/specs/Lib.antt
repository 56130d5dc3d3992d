pub mod Bytes
pub mod Parts
pub mod Scan
pub mod Numerals
pub mod Decimals
pub mod Tokens
pub mod TokenParts
