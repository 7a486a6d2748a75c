pub mod Answers
pub mod Heights
pub mod Parts
pub mod Read
