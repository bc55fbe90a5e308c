pub mod Lent
pub mod LentLaws
pub mod OnRecord
pub mod OnRecordLaws
pub mod Inserting
pub mod Symbol
