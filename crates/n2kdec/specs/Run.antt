pub mod Commands
pub mod Difference
pub mod Hint
