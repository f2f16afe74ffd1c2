-- The whole items at the front of a part.
use Rattle.std.proofs.Common.{◌≡◌, ℕ, zero, suc, ◌+◌, ◌-◌, ◌≤◌, ◌<◌, ltb, leb, ◌⊎◌, List, [], ◌∷◌, ◌++◌, length, take, drop, map, Option, Some, None, Result, Ok, Err, refl, sym, ap, ◌∙◌, append_assoc, arith, inl, inr}
use Rattle.std.proofs.lemmas.Bool.{ltb-false, cases_Bool}
use Rattle.std.proofs.lemmas.List.{append-nil, length-drop, drop-drop}
use Rattle.cbor_items.specs.declared.scan.Scan.{Scan}
use Rattle.cbor_items.specs.declared.scan.Scan.TheVariants as scan
use Rattle.cbor_items.specs.Scan.{scan_of}
use Rattle.cbor_items.proofs.Fronts.{scan_found, scan_takes}
use Rattle.mux_segment.specs.declared.item.Item.{Item}
use Rattle.mux_segment.specs.declared.fault.CutFault.{CutFault}
use Rattle.mux_segment.specs.declared.fault.CutFault.TheVariants.{TooLong}
use Rattle.mux_segment.specs.Items.{Taken, no_more, taken_at, taken_within, taken_of}
use Rattle.mux_segment.specs.Stream.{item_of}
use Rattle.mux_segment.specs.declared.stopped.Stopped.{Stopped}
use Rattle.mux_segment.specs.declared.stopped.Stopped.TheVariants.{Fault, NoMemory}
use Rattle.mux_segment.specs.Steps.{Adds, next_of, IsNext, IsTold}

abbrev pub with_body : List ℕ → Taken → Taken
with_body body t = record { bodies = body ∷ t.bodies; left = t.left; fault = t.fault }

abbrev pub nothing_taken : List ℕ → Taken
nothing_taken part = record { bodies = []; left = part; fault = None }

-- a step by what the next item is
abbrev taken_by : Result (Option ℕ) CutFault → List ℕ → (List ℕ → Taken) → Taken
taken_by (Ok (Some n)) part others = with_body (take n part) (others (drop n part))
taken_by (Ok None) part others = nothing_taken part
taken_by (Err fault) part others = no_more fault

at_is_by : (answer : Scan) (limit : ℕ) (part : List ℕ) (others : List ℕ → Taken) → taken_at answer limit part others ≡ taken_by (next_of answer limit part) part others
at_is_by (scan.Whole n) limit part others =
    elim (cases_Bool (ltb limit n)) [
      | inl above ↦ rw above refl
      | inr within ↦ rw within refl
    ]
at_is_by scan.More limit part others =
    elim (cases_Bool (leb limit (length part))) [
      | inl above ↦ rw above refl
      | inr within ↦ rw within refl
    ]
at_is_by scan.Bad limit part others = refl
at_is_by scan.Deep limit part others = refl

-- the next item is what the scan found
next_whole : (answer : Scan) (limit : ℕ) (part : List ℕ) (n : ℕ) → next_of answer limit part ≡ Ok (Some n) → (answer ≡ scan.Whole n) × (n ≤ limit)
next_whole (scan.Whole k) limit part n e =
    elim (cases_Bool (ltb limit k)) [
      | inl above ↦ let bad : ◌≡◌ {A = Result (Option ℕ) CutFault} (Err TooLong) (Ok (Some n)) = rw above at e in absurd cc
      | inr within ↦
          let some : ◌≡◌ {A = Result (Option ℕ) CutFault} (Ok (Some k)) (Ok (Some n)) = rw within at e in
          let same : k ≡ n = cc in
          (ap (λ (x : ℕ). scan.Whole x) same, omega (arith, ltb-false _ _ within))
    ]
next_whole scan.More limit part n e =
    elim (cases_Bool (leb limit (length part))) [
      | inl above ↦ let bad : ◌≡◌ {A = Result (Option ℕ) CutFault} (Err TooLong) (Ok (Some n)) = rw above at e in absurd cc
      | inr within ↦ let none : ◌≡◌ {A = Result (Option ℕ) CutFault} (Ok None) (Ok (Some n)) = rw within at e in absurd cc
    ]
next_whole scan.Bad limit part n e = absurd cc
next_whole scan.Deep limit part n e = absurd cc

pub record IsNextItem (limit : ℕ) (part : List ℕ) (n : ℕ) : Type 0 where
  pub found : scan_of part ≡ scan.Whole n
  pub some : 0 < n
  pub within : n ≤ length part
  pub fits : n ≤ limit

pub next_item_is : (limit : ℕ) (part : List ℕ) (n : ℕ) → next_of (scan_of part) limit part ≡ Ok (Some n) → IsNextItem limit part n
next_item_is limit part n e =
    let w = next_whole (scan_of part) limit part n e in
    record { found = w.0; some = scan_takes part n w.0; within = (scan_found part n w.0).0; fits = w.1 }

-- more turns than bytes change nothing
look : (r : Result (Option ℕ) CutFault) → ((n : ℕ) × (r ≡ Ok (Some n))) ⊎ ((t : List ℕ → Taken) × ((part : List ℕ) (others : List ℕ → Taken) → taken_by r part others ≡ t part))
look (Ok (Some n)) = inl (n, refl)
look (Ok None) = inr (nothing_taken, λ part others. refl)
look (Err fault) = inr ((λ part. no_more fault), λ part others. refl)

taken_turn : (limit n : ℕ) (part : List ℕ) → taken_within limit (suc n) part ≡ taken_by (next_of (scan_of part) limit part) part (taken_within limit n)
unfolding taken_within
taken_turn limit n part = at_is_by (scan_of part) limit part (taken_within limit n)

taken_enough : (limit n m : ℕ) (part : List ℕ) → length part < n → length part < m → taken_within limit n part ≡ taken_within limit m part
taken_enough limit zero m part a b = absurd (omega arith)
taken_enough limit (suc n) zero part a b = absurd (omega arith)
taken_enough limit (suc n) (suc m) part a b =
    elim (look (next_of (scan_of part) limit part)) [
      | inl (k, some) ↦
          let is = next_item_is limit part k some in
          let same = taken_enough limit n m (drop k part) (omega (arith, is.some, is.within, length-drop k part)) (omega (arith, is.some, is.within, length-drop k part)) in
          taken_turn limit n part
          ∙ ap (λ r. taken_by r part (taken_within limit n)) some
          ∙ ap (with_body (take k part)) same
          ∙ sym (taken_turn limit m part ∙ ap (λ r. taken_by r part (taken_within limit m)) some)
      | inr (t, ends) ↦ taken_turn limit n part ∙ ends part (taken_within limit n) ∙ sym (taken_turn limit m part ∙ ends part (taken_within limit m))
    ]

-- ---- the steps of the code

-- by a scan that was made before
pub next_again : (limit : ℕ) (part : List ℕ) (answer : Scan) (next : Result (Option ℕ) CutFault) → answer ≡ scan_of part → next_of answer limit part ≡ next
    → next_of (scan_of part) limit part ≡ next
next_again limit part answer next scanned e = ap (λ (a : Scan). next_of a limit part) (sym scanned) ∙ e

pub taken_some : (limit n : ℕ) (part : List ℕ) → next_of (scan_of part) limit part ≡ Ok (Some n) → taken_of limit part ≡ with_body (take n part) (taken_of limit (drop n part))
unfolding taken_of
taken_some limit n part some =
    let is = next_item_is limit part n some in
    taken_turn limit (length part) part
    ∙ ap (λ r. taken_by r part (taken_within limit (length part))) some
    ∙ ap (with_body (take n part)) (taken_enough limit (length part) (suc (length (drop n part))) (drop n part)
    (omega (arith, is.some, is.within, length-drop n part)) (omega arith))

pub taken_none : (limit : ℕ) (part : List ℕ) → next_of (scan_of part) limit part ≡ Ok None → taken_of limit part ≡ nothing_taken part
unfolding taken_of
taken_none limit part none = taken_turn limit (length part) part ∙ ap (λ r. taken_by r part (taken_within limit (length part))) none

pub taken_fault : (limit : ℕ) (part : List ℕ) (fault : CutFault) → next_of (scan_of part) limit part ≡ Err fault → taken_of limit part ≡ no_more fault
unfolding taken_of
taken_fault limit part fault stops = taken_turn limit (length part) part ∙ ap (λ r. taken_by r part (taken_within limit (length part))) stops

-- ---- the loop

-- with `rest` still to come, and these items so far
pub record IsTaking (limit side id : ℕ) (old : List Item) (part : List ℕ) (items : List Item) (rest : List ℕ) : Type 0 where
  pub items-are : items ++ map (item_of side id) (taken_of limit rest).bodies ≡ old ++ map (item_of side id) (taken_of limit part).bodies
  pub left-is : (taken_of limit rest).left ≡ (taken_of limit part).left
  pub fault-is : (taken_of limit rest).fault ≡ (taken_of limit part).fault
  pub within : length rest ≤ length part
  pub behind : drop (length part - length rest) part ≡ rest

module _ (limit side id : ℕ) (old : List Item) (part : List ℕ) where
  pub taking_starts : IsTaking limit side id old part old part
  taking_starts = record {
    items-are = refl;
    left-is = refl;
    fault-is = refl;
    within = omega arith;
    behind = let none : length part - length part ≡ 0 = omega arith in rw none refl;
  }

  pub taking_goes_on : (items : List Item) (rest after body : List ℕ) (n : ℕ) → next_of (scan_of rest) limit rest ≡ Ok (Some n)
      → body ≡ take n rest → after ≡ drop n rest
      → IsTaking limit side id old part items rest → IsTaking limit side id old part (items ++ item_of side id body ∷ []) after
  taking_goes_on items rest after body n some body-is after-is so_far =
      let is = next_item_is limit rest n some in
      let t = taken_some limit n rest some in
      let len : length (drop n rest) + n ≡ length rest = omega (arith, is.within, length-drop n rest) in
      let place : length part - length (drop n rest) ≡ (length part - length rest) + n = omega (arith, len, so_far.within) in
      let next : IsTaking limit side id old part (items ++ item_of side id (take n rest) ∷ []) (drop n rest) = record {
        items-are = append_assoc items (item_of side id (take n rest) ∷ []) (map (item_of side id) (taken_of limit (drop n rest)).bodies)
            ∙ sym (ap (λ (x : Taken). items ++ map (item_of side id) x.bodies) t) ∙ so_far.items-are;
        left-is = sym (ap (λ (x : Taken). x.left) t) ∙ so_far.left-is;
        fault-is = sym (ap (λ (x : Taken). x.fault) t) ∙ so_far.fault-is;
        within = omega (arith, len, so_far.within);
        behind = rw place (sym (drop-drop n (length part - length rest) part) ∙ ap (drop n) so_far.behind);
      } in
      rw (body-is, after-is) next

  pub taking_smaller : (rest after : List ℕ) (n : ℕ) → next_of (scan_of rest) limit rest ≡ Ok (Some n) → after ≡ drop n rest → length after < length rest
  taking_smaller rest after n some after-is =
      let is = next_item_is limit rest n some in
      omega (arith, is.some, is.within, length-drop n rest, ap length after-is)

  pub taking_ends : (items : List Item) (rest : List ℕ) → next_of (scan_of rest) limit rest ≡ Ok None → IsTaking limit side id old part items rest
      → ((taken_of limit part).fault ≡ None) × (items ≡ old ++ map (item_of side id) (taken_of limit part).bodies) × (drop (length part - length rest) part ≡ (taken_of limit part).left)
  taking_ends items rest none so_far =
      let t = taken_none limit rest none in (
        sym so_far.fault-is ∙ ap (λ (x : Taken). x.fault) t,
        sym (append-nil items) ∙ sym (ap (λ (x : Taken). items ++ map (item_of side id) x.bodies) t) ∙ so_far.items-are,
        so_far.behind ∙ sym (ap (λ (x : Taken). x.left) t) ∙ so_far.left-is,
      )

  pub taking_stops : (items : List Item) (rest : List ℕ) (fault : CutFault) → next_of (scan_of rest) limit rest ≡ Err fault → IsTaking limit side id old part items rest
      → ((taken_of limit part).fault ≡ Some fault) × (items ≡ old ++ map (item_of side id) (taken_of limit part).bodies)
  taking_stops items rest fault stops so_far =
      let t = taken_fault limit rest fault stops in (
        sym so_far.fault-is ∙ ap (λ (x : Taken). x.fault) t,
        sym (append-nil items) ∙ sym (ap (λ (x : Taken). items ++ map (item_of side id) x.bodies) t) ∙ so_far.items-are,
      )

  pub taking_adds : (X : Type 0) (items : List Item) (rest : List ℕ) (answer : Scan) (stop : Stopped) → answer ≡ scan_of rest → IsNext (Err stop) answer limit rest → IsTaking limit side id old part items rest
      → Adds {X = X} (Err stop) old items (map (item_of side id) (taken_of limit part).bodies) (taken_of limit part).fault
  taking_adds X items rest answer (Fault fault) scanned stops so_far = taking_stops items rest fault (next_again limit rest answer (Err fault) scanned stops) so_far
  taking_adds X items rest answer NoMemory scanned stops so_far = tt

-- what was added where it stopped, whatever would have been returned
pub adds_any : (X Y : Type 0) (stop : Stopped) (old new items : List Item) (fault : Option CutFault)
    → Adds {X = X} (Err stop) old new items fault → Adds {X = Y} (Err stop) old new items fault
adds_any X Y (Fault f) old new items fault adds = adds
adds_any X Y NoMemory old new items fault adds = tt

-- what a feed added before the fault that it is told to have stopped at
pub adds_told : (X E : Type 0) (stopped : Stopped) (fault : CutFault) (old new items : List Item) (why : Option CutFault)
    → IsTold {E = E} stopped (Ok fault) → Adds {X = X} (Err stopped) old new items why → (why ≡ Some fault) × (new ≡ old ++ items)
adds_told X E (Fault f) fault old new items why told adds = let same : f ≡ fault = cc in (adds.0 ∙ ap (λ (g : CutFault). Some g) same, adds.1)
adds_told X E NoMemory fault old new items why told adds = absurd told
