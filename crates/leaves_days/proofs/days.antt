-- What the proofs of more than one function of `days` use.
mod Method
