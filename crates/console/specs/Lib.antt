pub mod Commands
pub mod Lines
pub mod Running
pub mod Told
