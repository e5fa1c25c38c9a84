-- What the writers of files say of the area that they write into. Assumes nothing: these are definitions.
pub mod Pasting
pub mod Files
