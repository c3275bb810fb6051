-- Definitions for private clauses, invariants and proofs of this crate, and `held_of`, the view of `Blocks`.
pub mod Block
pub mod Counting
pub mod Engine
pub mod Failures
pub mod Overdue
pub mod Parts
pub mod Reading
pub mod Sending
