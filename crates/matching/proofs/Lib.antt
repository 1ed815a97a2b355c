mod Flags
mod Filled
