-- Laws over the definitions of specs/: what is proved of them here, and what the proofs above stand on.
pub mod Calls
pub mod Complaint
pub mod Holds
pub mod Kept
pub mod Literal
pub mod Order
pub mod OthersLaws
pub mod Rules
pub mod StateLaws
pub mod Steps
pub mod Whole
