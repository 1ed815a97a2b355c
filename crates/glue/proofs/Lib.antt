-- Laws over plain lists and numbers; the folders beside prove the functions with them.
mod Codes
mod Sweeping
mod Merged
mod Climb
mod Shift
mod Depth
mod TwoTrees
