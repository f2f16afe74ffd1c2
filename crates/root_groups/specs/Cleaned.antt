-- Groups without doubles, as they are defined with the crate that cleans them.
pub use Rattle.clean_groups.specs.Cleaned.{is_listed, cleaned, members_of, group_of, without_members}
unfoldable pub use Rattle.clean_groups.specs.Cleaned.{first_places, cleaned_after}
