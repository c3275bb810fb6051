pub mod Feeding
pub mod More
pub mod Parts
pub mod Settling
