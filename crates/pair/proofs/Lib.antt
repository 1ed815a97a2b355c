mod Climbing
mod Selecting
mod Pair
