-- Cutting and joining histories, when a reading passes one, and the theorem. Read in this order.
pub mod Halves
pub mod Passing
pub mod CutAndJoin
