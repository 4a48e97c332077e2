pub mod Decoded
pub mod Printed
