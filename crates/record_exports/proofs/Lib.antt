mod Knowing
mod Lifting
mod Refusing
mod Keeping
mod Missing
mod Worked
