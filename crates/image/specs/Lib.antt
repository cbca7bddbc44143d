pub mod Format
pub mod Shape
pub mod Chip
pub mod Law
pub mod Told
pub mod Report
