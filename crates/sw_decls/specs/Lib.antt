pub mod Declaring
pub mod Hollow
pub mod Holders
pub mod Signatures
pub mod Wide
