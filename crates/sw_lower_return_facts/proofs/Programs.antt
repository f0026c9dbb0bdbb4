pub mod Declarations
pub mod FuncTrees
pub mod Getters
pub mod Globals
pub mod Initialisers
pub mod Signed
