pub mod AliasKeys
pub mod Items
