pub mod Answers
pub mod Frame
pub mod DecoderView
pub mod Inner
pub mod Job
pub mod Queue
pub mod Stands
pub mod Status
