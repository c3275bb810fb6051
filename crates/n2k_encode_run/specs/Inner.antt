-- Definitions for private clauses, invariants and proofs of this crate.
pub mod Taking
pub mod Writing
