pub mod Text
pub mod TextLaws
pub mod Portions
pub mod Asked
pub mod AskedLaws
pub mod Examples
