mod Reading
mod Several
