pub mod Slots
pub mod Spreads
pub mod Layers
pub mod Plays
