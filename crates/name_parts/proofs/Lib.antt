mod Affixes
mod Numbers
