pub mod Feeding
pub mod Opening
pub mod RawBoxes
pub mod RawDecoders
pub mod Sent
pub mod Working
mod Queues
