pub mod HasShims
