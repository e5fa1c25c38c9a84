-- Laws that the reader's proofs cite, and in Parts those that its callers cite. Assumes nothing.
pub mod Walking
pub mod Parts
