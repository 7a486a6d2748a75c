pub mod Designs
pub mod Laws
pub mod SetDesigns
