-- The planes of a frame's file.
pub mod Planes
