pub mod AddressOrder
pub mod NumberLemmas
