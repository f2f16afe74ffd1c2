-- Numbers, and things one behind the other: as items, and as they are written.
use Rattle.std.proofs.Common.{ℕ, zero, suc, ◌<◌, ◌^◌, List, [], ◌∷◌, length, refl, arith, inl, lit<}
use Rattle.std.specs.List.{flat_map, AllByRecursion}
use Rattle.cbor_items.specs.Head.{shortest_head, written_head}
use Rattle.cbor_items.specs.Definite.{IsDefinite, IsNumber}
use Rattle.cbor_items.specs.Item.{IsRow, AreInTurn, IsFlat, IsItem}
use Rattle.cbor_items.specs.Item.IsFlat.{alone}
use Rattle.cbor_items.proofs.Shortest.{are_read_again}

-- ---- items

pub flat_is_item : (depth : ℕ) (bytes : List ℕ) → IsFlat bytes → IsItem depth bytes
unfolding IsItem
flat_is_item zero bytes flat = flat
flat_is_item (suc depth) bytes flat = inl flat

pub number_is_item : (depth n : ℕ) (bytes : List ℕ) → IsNumber n bytes → IsItem depth bytes
number_is_item depth n bytes d = flat_is_item depth bytes (alone d.is_head (rw d.is_major refl) d.definite)

pub in_turn_is_row : {X : Type 0} (Thing : List ℕ → Type 0) (Each : X → List ℕ → Type 0) → ((x : X) (bytes : List ℕ) → Each x bytes → Thing bytes)
    → (xs : List X) (bytes : List ℕ) → AreInTurn Each xs bytes → IsRow Thing (length xs) bytes
in_turn_is_row Thing Each things [] bytes is = is
in_turn_is_row Thing Each things (x ∷ xs) bytes is = record {
  first = is.first;
  second = is.second;
  joined = is.joined;
  is_first = things x is.first is.is_first;
  is_second = in_turn_is_row Thing Each things xs is.second is.is_second;
}

-- ---- what is written

pub definite_written : (major value : ℕ) → major < 7 → value < 2 ^ 64 → IsDefinite major value (shortest_head major value)
definite_written major value low fits = record {
  head = written_head major value;
  is_head = (are_read_again major value [] (record { major_fits = omega arith; simple_fits = λ seven. absurd (omega arith); value_fits = fits })).0;
  is_major = refl;
  definite = refl;
  is_value = refl;
}

pub number_written : (n : ℕ) → n < 2 ^ 64 → IsNumber n (shortest_head 0 n)
number_written n fits = definite_written 0 n (lit< tt) fits

pub in_turn_written : {X : Type 0} (Each : X → List ℕ → Type 0) (write : X → List ℕ) (Fits : X → Type 0) → ((x : X) → Fits x → Each x (write x))
    → (xs : List X) → AllByRecursion Fits xs → AreInTurn Each xs (flat_map write xs)
in_turn_written Each write Fits written [] fit = refl
in_turn_written Each write Fits written (x ∷ xs) fit = record {
  first = write x;
  second = flat_map write xs;
  joined = refl;
  is_first = written x fit.0;
  is_second = in_turn_written Each write Fits written xs fit.1;
}
