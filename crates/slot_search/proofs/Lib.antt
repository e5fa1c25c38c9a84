-- What the proofs of the functions use. Assumes nothing.
mod WalkLaws
pub mod EndsLaws
mod CellLaws
mod LoopLaws
mod NumberLaws
