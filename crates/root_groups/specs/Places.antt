-- The place of the group of each local address.
pub use Rattle.clean_groups.specs.Places.{place_of}
