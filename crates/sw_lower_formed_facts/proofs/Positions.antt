-- Code where it stands: each step, code after code, and what stays known from one position to a
-- later one.
pub mod Asking
pub mod Each
pub mod Entering
pub mod Following
pub mod Steps
pub mod Then
pub mod Using
