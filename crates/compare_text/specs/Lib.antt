pub mod Text
pub mod Portions
