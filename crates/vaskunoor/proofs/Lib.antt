-- What the answers of the floors below are in the words of the jobs. Assumes nothing.
pub mod Reading
pub mod Loading
pub mod Allotting
pub mod Makes
pub mod Verifying
