-- Definitions that only private clauses, invariants and proofs of this crate use.
pub mod Apart
pub mod Order
pub mod Places
pub mod SavedTokens
pub mod Slots
pub mod Stored
pub mod Taken
