mod Prelude
pub mod Polynomials
pub mod Adjoints
pub mod Denoted
pub mod Sums
pub mod Products
pub mod Marks
pub mod Expressions
pub mod Equations
pub mod Statements
pub mod Meanings
pub mod Claims
pub mod OneTree
