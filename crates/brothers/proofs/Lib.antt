mod Listing
pub mod Children
