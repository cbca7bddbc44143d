pub mod BareFlash
