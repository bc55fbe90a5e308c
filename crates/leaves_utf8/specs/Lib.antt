pub mod Utf8
pub mod Utf8Bytes
pub mod Utf8Laws
pub mod Utf8Grammar
