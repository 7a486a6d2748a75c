pub mod Solving
pub mod Asked
pub mod Boards
pub mod Laws
pub mod Outcomes
