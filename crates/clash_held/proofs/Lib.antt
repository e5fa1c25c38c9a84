-- The laws behind what two circuits hold. Assumes nothing.
pub mod Held
pub mod Sets
