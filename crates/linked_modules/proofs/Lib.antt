mod SameTypes
mod Linked
mod LinkRefusals
