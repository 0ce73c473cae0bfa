pub mod Results
pub mod Signatures
pub mod Polynomials
pub mod Laws
pub mod Begun
pub mod Due
pub mod Repeated
