pub mod Views
pub mod Rules
pub mod Roles
pub mod Meaning
pub mod Leaves
pub mod Told
pub mod Makes
pub mod Replay
