-- The laws that the proofs cite: of a record's tests, of the walk; and the laws for callers. Assumes nothing.
pub mod Laws
pub mod Walking
pub mod Parts
