-- Words that only private clauses and proofs of this crate use.
pub mod Closing
pub mod Parse
