pub mod Same
pub mod Joins
pub mod Windows
pub mod Rejoined
pub mod Patches
pub mod Chips
pub mod Blanks
