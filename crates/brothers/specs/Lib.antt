pub mod Brothers
