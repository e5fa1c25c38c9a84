-- The laws behind the length of an assignment, from a walk's outcome to the reply, and from a grid that is right to the definition's search.
-- Assumes nothing.
mod Counting
mod ReplyLaws
mod Bridge
