pub mod NotedByKeys
