pub mod Inventories
pub mod Counting
pub mod InventoryGrowth
pub mod Components
