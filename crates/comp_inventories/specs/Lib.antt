pub mod Inventories
