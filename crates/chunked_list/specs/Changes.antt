-- What a list is after something was done to the item at a place of it.
use Rattle.std.specs.Prelude.{◌≡◌, ℕ, List, slice_index_or, slice_set}

pub record IsChangedAt {T : Type 0} (does : T → T → Type 0) (place : ℕ) (old new : List T) : Type 0 where
  pub item : T
  pub done : (d : T) → does (slice_index_or old place d) item
  pub others_stay : new ≡ slice_set old place item
