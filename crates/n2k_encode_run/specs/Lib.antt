pub mod Encodes
pub mod Inner
pub mod More
pub mod Outcomes
