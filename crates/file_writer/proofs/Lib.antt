-- The laws behind what is laid into an area. Assumes nothing.
pub mod Lists
pub mod Pastes
pub mod Rest
pub mod Files
