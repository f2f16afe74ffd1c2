-- A payload in pieces.
use Rattle.std.proofs.Common.{◌≡◌, ◌≢◌, ℕ, zero, suc, ◌≤◌, ◌<◌, List, [], ◌∷◌, ◌++◌, length, take, drop, map, refl, sym, ap, ◌∙◌, append_assoc, arith, inl, inr}
use Rattle.std.specs.List.{flat_map, concat}
use Rattle.std.proofs.lemmas.Bool.{cases_lt}
use Rattle.std.proofs.lemmas.List.{append-nil, length-take, length-drop, take-append-drop, take_all}
use Rattle.mux_segment.specs.Segment.{segment_bytes}
use Rattle.mux_segment.specs.Frame.{payload_limit, pieces_within, pieces_of, time_of, segment_of, frame_of, AreFullButLast, ArePieces}

-- more turns than bytes change nothing
pieces_enough : (n m : ℕ) (payload : List ℕ) → length payload ≤ n → length payload ≤ m → pieces_within n payload ≡ pieces_within m payload
unfolding pieces_within
pieces_enough zero zero payload a b = refl
pieces_enough zero (suc m) [] a b = refl
pieces_enough zero (suc m) (byte ∷ payload) a b = absurd (omega arith)
pieces_enough (suc n) zero [] a b = refl
pieces_enough (suc n) zero (byte ∷ payload) a b = absurd (omega arith)
pieces_enough (suc n) (suc m) [] a b = refl
pieces_enough (suc n) (suc m) (byte ∷ payload) a b =
    let rest = drop payload_limit (byte ∷ payload) in
    ap (λ (x : List (List ℕ)). take payload_limit (byte ∷ payload) ∷ x)
    (pieces_enough n m rest (omega (arith, length-drop payload_limit (byte ∷ payload))) (omega (arith, length-drop payload_limit (byte ∷ payload))))

-- the pieces of what is left
abbrev pub pieces_left : List ℕ → List (List ℕ)
pieces_left rest = pieces_within (length rest) rest

pub pieces_none : (rest : List ℕ) → length rest ≡ 0 → pieces_left rest ≡ []
unfolding pieces_within
pieces_none [] none = refl
pieces_none (byte ∷ rest) none = absurd (omega arith)

pub pieces_more : (rest : List ℕ) → 0 < length rest → pieces_left rest ≡ take payload_limit rest ∷ pieces_left (drop payload_limit rest)
unfolding pieces_within
pieces_more [] some = absurd (omega arith)
pieces_more (byte ∷ rest) some =
    let after = drop payload_limit (byte ∷ rest) in
    ap (λ (x : List (List ℕ)). take payload_limit (byte ∷ rest) ∷ x)
    (pieces_enough (length rest) (length after) after (omega (arith, length-drop payload_limit (byte ∷ rest))) (omega arith))

pub pieces_first : (payload : List ℕ) → pieces_of payload ≡ take payload_limit payload ∷ pieces_left (drop payload_limit payload)
unfolding pieces_of
pieces_first payload =
    let rest = drop payload_limit payload in
    ap (λ (x : List (List ℕ)). take payload_limit payload ∷ x)
    (pieces_enough (length payload) (length rest) rest (omega (arith, length-drop payload_limit payload)) (omega arith))

-- ---- the loop

module _ (side id time : ℕ) where
  abbrev pub spelled : List (List ℕ) → List ℕ
  spelled pieces = flat_map segment_bytes (map (segment_of side id time) pieces)

  pub frame_starts : (payload out piece rest : List ℕ) → piece ≡ take payload_limit payload → rest ≡ drop payload_limit payload
      → out ≡ [] ++ segment_bytes (segment_of side id time piece) → out ++ spelled (pieces_left rest) ≡ spelled (pieces_of payload)
  frame_starts payload out piece rest piece-is rest-is out-is =
      ap (λ (x : List ℕ). x ++ spelled (pieces_left rest)) out-is
      ∙ ap (λ (x : List ℕ). segment_bytes (segment_of side id time x) ++ spelled (pieces_left rest)) piece-is
      ∙ ap (λ (x : List ℕ). segment_bytes (segment_of side id time (take payload_limit payload)) ++ spelled (pieces_left x)) rest-is
      ∙ sym (ap spelled (pieces_first payload))

  pub frame_goes_on : (total out new rest piece after : List ℕ) → length rest ≢ 0 → piece ≡ take payload_limit rest → after ≡ drop payload_limit rest
      → new ≡ out ++ segment_bytes (segment_of side id time piece) → out ++ spelled (pieces_left rest) ≡ total → new ++ spelled (pieces_left after) ≡ total
  frame_goes_on total out new rest piece after some piece-is after-is new-is so_far =
      let first = segment_bytes (segment_of side id time piece) in
      ap (λ (x : List ℕ). x ++ spelled (pieces_left after)) new-is
      ∙ append_assoc out first (spelled (pieces_left after))
      ∙ ap (λ (x : List ℕ). out ++ (segment_bytes (segment_of side id time x) ++ spelled (pieces_left after))) piece-is
      ∙ ap (λ (x : List ℕ). out ++ (segment_bytes (segment_of side id time (take payload_limit rest)) ++ spelled (pieces_left x))) after-is
      ∙ ap (λ (x : List (List ℕ)). out ++ spelled x) (sym (pieces_more rest (omega (arith, some))))
      ∙ so_far

  pub frame_smaller : (rest after : List ℕ) → length rest ≢ 0 → after ≡ drop payload_limit rest → length after < length rest
  frame_smaller rest after some after-is = omega (arith, some, ap length after-is, length-drop payload_limit rest)

  pub frame_ends : (total out rest : List ℕ) → length rest ≡ 0 → out ++ spelled (pieces_left rest) ≡ total → out ≡ total
  frame_ends total out rest none so_far = sym (append-nil out) ∙ ap (λ (x : List (List ℕ)). out ++ spelled x) (sym (pieces_none rest none)) ∙ so_far

pub frame_is : (side id now : ℕ) (payload : List ℕ) → frame_of side id now payload ≡ spelled side id (time_of now) (pieces_of payload)
unfolding frame_of
frame_is side id now payload = refl

-- ---- what the pieces are

full_more : (piece : List ℕ) (others : List (List ℕ)) → length piece ≡ payload_limit → AreFullButLast others → AreFullButLast (piece ∷ others)
full_more piece [] len full = absurd full
full_more piece (next ∷ others) len full = (len, full)

full_pieces : (n : ℕ) (payload : List ℕ) → length payload ≤ n → 0 < length payload → (concat (pieces_left payload) ≡ payload) × AreFullButLast (pieces_left payload)
full_pieces zero payload small some = absurd (omega arith)
full_pieces (suc n) payload small some =
    let rest = drop payload_limit payload in
    let first = take payload_limit payload in
    elim (cases_lt payload_limit (length payload)) [
      | inl long ↦
          let others = full_pieces n rest (omega (arith, length-drop payload_limit payload)) (omega (arith, length-drop payload_limit payload)) in
          let full = full_more first (pieces_left rest) (omega (arith, length-take payload_limit payload)) others.1 in
          rw (pieces_more payload some)
          (ap (λ (x : List ℕ). first ++ x) others.0 ∙ take-append-drop payload_limit payload, full)
      | inr short ↦
          let none : pieces_left rest ≡ [] = pieces_none rest (omega (arith, length-drop payload_limit payload)) in
          let one : pieces_left payload ≡ first ∷ [] = pieces_more payload some ∙ ap (λ (x : List (List ℕ)). first ∷ x) none in
          rw one (append-nil first ∙ take_all payload_limit payload short, (omega (arith, length-take payload_limit payload), omega (arith, length-take payload_limit payload)))
    ]

left_is : (payload : List ℕ) → 0 < length payload → pieces_of payload ≡ pieces_left payload
left_is payload some = pieces_first payload ∙ sym (pieces_more payload some)

pub are_pieces : (payload : List ℕ) → ArePieces payload (pieces_of payload)
are_pieces [] = pieces_first [] ∙ ap (λ (x : List (List ℕ)). [] ∷ x) (pieces_none [] refl)
are_pieces (byte ∷ bytes) = rw (left_is (byte ∷ bytes) (omega arith)) (full_pieces (length (byte ∷ bytes)) (byte ∷ bytes) (omega arith) (omega arith))
