pub mod Words
pub mod Checks
pub mod Encodings
pub mod Decodings
pub mod Faults
pub mod Laws
pub mod Totals
pub mod Reports
