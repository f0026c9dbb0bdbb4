-- The graphs of programs are placed, and clean where nothing is shared.
pub mod Accesses
pub mod Calls
pub mod Clean
pub mod Closures
pub mod Functions
pub mod Keeping
pub mod Initialisers
pub mod Makers
pub mod Placed
pub mod Points
pub mod Programs
pub mod Selves
pub mod Shapes
pub mod Standing
pub mod Stores
