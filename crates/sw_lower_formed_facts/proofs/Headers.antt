-- Functions, methods, initialisers and getters are found by their names, with their headers.
pub mod ByName
pub mod FoundFuncs
pub mod FoundGetters
pub mod Funcs
pub mod Getters
pub mod GlobalGetters
pub mod InsideBodies
pub mod Makers
pub mod Methods
pub mod ParamTypes
pub mod PartGetters
pub mod Signed
