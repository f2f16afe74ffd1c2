pub mod Asked
pub mod Files
pub mod Laws
pub mod Node
