mod Listing
pub mod Image
