pub mod Asked
pub mod Usage
pub mod Words
