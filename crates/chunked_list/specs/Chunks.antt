-- A list in chunks.
use Rattle.std.specs.Prelude.{◌≡◌, ℕ, Bool, false, ◌+◌, ◌-◌, ◌<◌, ◌≤◌, List, [], ◌∷◌, ◌++◌, length, take, drop, slice_index_or, nat_lt, if◌then◌else◌}
use Rattle.std.specs.List.{AllByRecursion, flat_map}
use Rattle.std.specs.Vec.{vec_capacity}
use Rattle.chunked_list.specs.declared.chunk.Chunk.{Chunk}
use Rattle.chunked_list.specs.declared.spot.Spot.{Spot}

module _ {T : Type 0} where
  abbrev pub items_in : Chunk T → List T
  items_in c = c.items.items

  -- the items of chunks, one chunk after another
  abbrev pub joined : List (Chunk T) → List T
  joined cs = flat_map items_in cs

  -- a chunk has some items, and not too many
  pub record IsFilled (c : Chunk T) : Type 0 where
    pub some : 0 < length (items_in c)
    pub few : length (items_in c) ≤ 32

  abbrev pub AreFilled : List (Chunk T) → Type 0
  AreFilled cs = AllByRecursion IsFilled cs

  -- how many items stand before each, and so many before the first
  abbrev pub starts : ℕ → List (Chunk T) → List ℕ
  starts before [] = []
  starts before (c ∷ cs) = before ∷ starts (before + length (items_in c)) cs

  -- chunks, and how many items stand before each
  pub record AreChunks (cs : List (Chunk T)) (firsts : List ℕ) : Type 0 where
    pub filled : AreFilled cs
    pub numbers : firsts ≡ starts 0 cs

  -- ---- a spot

  -- the place in the list
  abbrev pub place_of : List (Chunk T) → Spot → ℕ
  place_of cs s = length (joined (take s.chunk cs)) + s.at

  -- an item stands there
  pub record IsInside (cs : List (Chunk T)) (s : Spot) : Type 0 where
    pub chunk : s.chunk < length cs
    pub at : (d : Chunk T) → s.at < length (items_in (slice_index_or cs s.chunk d))

  -- its chunk has room for one more
  abbrev pub HasRoom : List (Chunk T) → ℕ → Type 0
  HasRoom cs i = (d : Chunk T) → length (items_in (slice_index_or cs i d)) < 32

  -- its first item passes
  abbrev pub first_passes : (T → Bool) → List T → Bool
  first_passes p [] = false
  first_passes p (x ∷ xs) = p x

  abbrev pub begins : (T → Bool) → Chunk T → Bool
  begins p c = first_passes p (items_in c)

  -- ---- a chunk cut in two

  pub record IsSplit (old : List (Chunk T)) (i : ℕ) (new : List (Chunk T)) : Type 0 where
    pub low : Chunk T
    pub high : Chunk T
    pub new_is : new ≡ take i old ++ low ∷ high ∷ drop (i + 1) old
    pub low_is : (d : Chunk T) → items_in low ≡ take 16 (items_in (slice_index_or old i d))
    pub high_is : (d : Chunk T) → items_in high ≡ drop 16 (items_in (slice_index_or old i d))

  -- ---- two chunks that can be one

  -- the chunk at a place has the memory for its items and those of the one behind it, and they are not too many
  pub record CanJoin (cs : List (Chunk T)) (i : ℕ) : Type 0 where
    pub there : i + 1 < length cs
    pub few : (d : Chunk T) → length (items_in (slice_index_or cs i d)) + length (items_in (slice_index_or cs (i + 1) d)) ≤ 32
    pub room : (d : Chunk T) → length (items_in (slice_index_or cs i d)) + length (items_in (slice_index_or cs (i + 1) d)) ≤ vec_capacity (slice_index_or cs i d).items

-- the spot of an item of a chunk that was cut in two
abbrev pub halved : Spot → Spot
halved s = if nat_lt s.at 16 then s else record { chunk = s.chunk + 1; at = s.at - 16 }
