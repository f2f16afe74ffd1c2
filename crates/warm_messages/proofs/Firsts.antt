-- The first address of an array, where one was read.
use Rattle.std.proofs.Common.{◌≡◌, ◌≢◌, ℕ, ◌⊎◌, List, Some, None, inl, inr}
use Rattle.net_base.specs.declared.address.Addr.{Addr}
use Rattle.warm_messages.specs.declared.array.Length.{Length}
use Rattle.warm_messages.specs.Reading.{opening_at, address_at, first_in}

-- the head alone was read of what is there, or the first address was too
abbrev pub BeganWith : List ℕ → List ℕ → Type 0
BeganWith bytes rest = ((size : Length) × (opening_at bytes ≡ Some (size, rest))) ⊎ (first_in bytes ≢ None)

pub first_read : (bytes rest : List ℕ) (read : Addr × List ℕ) → BeganWith bytes rest → address_at rest ≡ Some read → first_in bytes ≢ None
first_read bytes rest read (inl (size, opened)) found none = let some : first_in bytes ≡ Some read = rw opened found in absurd cc
first_read bytes rest read (inr some) found none = some none
