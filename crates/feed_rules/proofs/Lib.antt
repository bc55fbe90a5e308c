-- Laws over the definitions of specs/: what is proved of them here, and what the proofs above stand on.
pub mod AddingLaws
pub mod Going
pub mod History
pub mod Needs
pub mod PartialLaws
pub mod Portions
pub mod SpansLaws
pub mod Steps
pub mod WindowsLaws
