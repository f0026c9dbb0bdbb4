pub mod LateSecure
