-- What the proofs of the functions use. Assumes nothing.
mod WordLaws
mod ShutLaws
