-- The laws behind the assignment by masks. Assumes nothing.
pub mod Files
