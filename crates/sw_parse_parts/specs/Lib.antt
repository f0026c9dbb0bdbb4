pub mod Taking
pub mod Around
pub mod Begin
pub mod Nested
pub mod Typed
