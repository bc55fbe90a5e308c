-- Laws over the definitions of specs/: what is proved of them here, and what the proofs above stand on.
pub mod Cover
pub mod Laws
pub mod WalkLaws
