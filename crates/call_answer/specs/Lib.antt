-- How an answer is handed out as numbers. Assumes nothing: these are definitions.
pub mod Handed
