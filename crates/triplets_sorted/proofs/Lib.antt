-- Why the one pass over sorted triplets meets its contracts.
mod Order
mod Prefix
mod Values
mod Steps
mod Matrix
