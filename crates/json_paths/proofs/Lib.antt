pub mod Escaping
pub mod Loop
pub mod Texts
pub mod Arrays
pub mod Others
