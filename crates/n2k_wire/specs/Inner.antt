-- Words that only private clauses, invariants and proofs of this crate use.
pub mod Candump
pub mod Digits
pub mod Plain
pub mod Stamp
