mod Building
mod CoreModules
mod Exports
mod Growth
mod Nesting
mod Scoping
