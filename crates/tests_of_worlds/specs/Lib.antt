pub mod CoreImports
