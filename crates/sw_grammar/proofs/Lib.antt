pub mod ProgramLaws
pub mod TokenSets
pub mod TypesAlike
pub mod ExprsAlike
pub mod ClosuresAlike
pub mod ValuesAlike
pub mod StmtsAlike
pub mod BodiesAlike
