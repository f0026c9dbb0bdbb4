pub mod EachNoted
pub mod NotedTrees
