pub mod ResultClauses
