-- Words that only private clauses, invariants and proofs of this crate use.
pub mod Digits
pub mod Entries
pub mod FieldValue
pub mod FirstWord
pub mod MatchPrefilter
pub mod Index
pub mod Kept
pub mod Line
pub mod LineBuffer
pub mod Number
pub mod Padded
pub mod TableId
