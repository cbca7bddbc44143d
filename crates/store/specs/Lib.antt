pub mod Meaning
pub mod Told
pub mod Plain
pub mod Spread
pub mod Sides
pub mod Played
pub mod Layered
