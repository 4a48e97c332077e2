pub mod Urls
pub mod Scans
pub mod Places
pub mod Nested
pub mod Backs
pub mod Labels
pub mod Bounds
