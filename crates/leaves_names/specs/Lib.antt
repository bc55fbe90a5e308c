pub mod Names
pub mod NamesLaws
pub mod NamingLaws
pub mod NamesList
pub mod Room
