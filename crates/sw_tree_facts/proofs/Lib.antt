pub mod UnwrittenEquations
pub mod EmptyLists
pub mod PartsWritten
pub mod LackingParts
pub mod WrittenTrees
pub mod WrittenDecls
pub mod PlaceSizes
