mod Joined
mod Numerals
mod Ranges
mod Spelling
mod Swapped
