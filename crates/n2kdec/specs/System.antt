pub mod Disk
pub mod Machine
pub mod Reader
