-- The items of a part are those that the grammar of items says.
use Rattle.std.proofs.Common.{◌≡◌, ℕ, zero, suc, ◌≤◌, ◌<◌, ltb, leb, List, [], ◌∷◌, ◌++◌, length, take, drop, Option, Some, None, Result, Ok, Err, refl, sym, ap, subst, ◌∙◌, append_assoc, arith, inl, inr}
use Rattle.std.specs.List.{concat}
use Rattle.std.proofs.lemmas.Bool.{cases_Bool, ltb-true, leb-true, leb-false, lt-ltb, le-ltb, le-leb, lt-leb}
use Rattle.std.proofs.lemmas.List.{length-take, length-drop, take-append-drop, take_at, drop_at}
use Rattle.std.proofs.lemmas.List.Elements.{All-nil, All-cons, All-head, All-tail}
use Rattle.cbor_items.specs.declared.scan.Scan.{Scan}
use Rattle.cbor_items.specs.declared.scan.Scan.TheVariants as scan
use Rattle.cbor_items.specs.Scan.{scan_of}
use Rattle.cbor_items.specs.Item.{IsItem, level_limit}
use Rattle.cbor_items.specs.Answer.{IsAnswer}
use Rattle.cbor_items.proofs.Meaning.{answer_means, only_answer}
use Rattle.cbor_items.proofs.Fronts.{scan_found, scan_again}
use Rattle.mux_segment.specs.declared.fault.CutFault.{CutFault}
use Rattle.mux_segment.specs.declared.fault.CutFault.TheVariants.{Bad, Deep, TooLong, UnknownId}
use Rattle.mux_segment.specs.Items.{Taken, taken_of, IsLeft, AreItems}
use Rattle.mux_segment.specs.Steps.{next_of}
use Rattle.mux_segment.proofs.Takes.{with_body, next_item_is, taken_some, taken_none, taken_fault}

abbrev Next : Type 0
Next = Result (Option ℕ) CutFault

-- ---- what stands behind the items

no_item_left : (limit : ℕ) (part : List ℕ) (answer : Scan) → IsAnswer part answer → next_of answer limit part ≡ Ok None → IsLeft limit None part
no_item_left limit part (scan.Whole n) is e =
    elim (cases_Bool (ltb limit n)) [
      | inl above ↦ let bad : ◌≡◌ {A = Next} (Err TooLong) (Ok None) = rw above at e in absurd cc
      | inr within ↦ let bad : ◌≡◌ {A = Next} (Ok (Some n)) (Ok None) = rw within at e in absurd cc
    ]
no_item_left limit part scan.More is e =
    elim (cases_Bool (leb limit (length part))) [
      | inl above ↦ let bad : ◌≡◌ {A = Next} (Err TooLong) (Ok None) = rw above at e in absurd cc
      | inr within ↦ (is, leb-false _ _ within)
    ]
no_item_left limit part scan.Bad is e = absurd cc
no_item_left limit part scan.Deep is e = absurd cc

fault_left : (limit : ℕ) (part : List ℕ) (answer : Scan) (fault : CutFault) → IsAnswer part answer → next_of answer limit part ≡ Err fault → IsLeft limit (Some fault) part
fault_left limit part (scan.Whole n) fault is e =
    elim (cases_Bool (ltb limit n)) [
      | inl above ↦
          let stops : ◌≡◌ {A = Next} (Err TooLong) (Err fault) = rw above at e in
          let same : TooLong ≡ fault = cc in
          let left : IsLeft limit (Some TooLong) part = inl (n, is.0, ltb-true _ _ above, is.1) in
          subst (λ (f : CutFault). IsLeft limit (Some f) part) same left
      | inr within ↦ let bad : ◌≡◌ {A = Next} (Ok (Some n)) (Err fault) = rw within at e in absurd cc
    ]
fault_left limit part scan.More fault is e =
    elim (cases_Bool (leb limit (length part))) [
      | inl above ↦
          let stops : ◌≡◌ {A = Next} (Err TooLong) (Err fault) = rw above at e in
          let same : TooLong ≡ fault = cc in
          let left : IsLeft limit (Some TooLong) part = inr (is, leb-true _ _ above) in
          subst (λ (f : CutFault). IsLeft limit (Some f) part) same left
      | inr within ↦ let bad : ◌≡◌ {A = Next} (Ok None) (Err fault) = rw within at e in absurd cc
    ]
fault_left limit part scan.Bad fault is e = let same : Bad ≡ fault = cc in subst (λ (f : CutFault). IsLeft limit (Some f) part) same is
fault_left limit part scan.Deep fault is e = let same : Deep ≡ fault = cc in subst (λ (f : CutFault). IsLeft limit (Some f) part) same is

abbrev next_at : ℕ → List ℕ → Next
next_at limit part = next_of (scan_of part) limit part

-- ---- the items that are taken are these

pub record AreGrammar (limit : ℕ) (part : List ℕ) (t : Taken) : Type 0 where
  pub behind : List ℕ
  pub items : AreItems limit part t.bodies behind t.fault
  pub left : t.fault ≡ None → behind ≡ t.left

abbrev Fitting : ℕ → List ℕ → Type 0
Fitting limit body = IsItem level_limit body × (length body ≤ limit)

by_next : (limit : ℕ) (part : List ℕ) (r : Next) → next_at limit part ≡ r
    → ((k : ℕ) → next_at limit part ≡ Ok (Some k) → AreGrammar limit (drop k part) (taken_of limit (drop k part))) → AreGrammar limit part (taken_of limit part)
by_next limit part (Ok (Some k)) e others =
    let is = next_item_is limit part k e in
    let o = others k e in
    let t = taken_of limit (drop k part) in
    let found = scan_found part k is.found in
    subst (AreGrammar limit part) (sym (taken_some limit k part e)) (record {
      behind = o.behind;
      items = record {
        joined = sym (take-append-drop k part) ∙ ap (λ (x : List ℕ). take k part ++ x) o.items.joined ∙ sym (append_assoc (take k part) (concat t.bodies) o.behind);
        each = All-cons (Fitting limit) (take k part) t.bodies (found.1, omega (arith, is.fits, length-take k part)) o.items.each;
        left = o.items.left;
      };
      left = o.left;
    })
by_next limit part (Ok None) e others =
    subst (AreGrammar limit part) (sym (taken_none limit part e)) (record {
      behind = part;
      items = record { joined = refl; each = All-nil (Fitting limit); left = no_item_left limit part (scan_of part) (answer_means part) e };
      left = λ none. refl;
    })
by_next limit part (Err fault) e others =
    subst (AreGrammar limit part) (sym (taken_fault limit part fault e)) (record {
      behind = part;
      items = record { joined = refl; each = All-nil (Fitting limit); left = fault_left limit part (scan_of part) fault (answer_means part) e };
      left = λ none. absurd cc;
    })

are_grammar : (n limit : ℕ) (part : List ℕ) → length part < n → AreGrammar limit part (taken_of limit part)
are_grammar zero limit part small = absurd (omega arith)
are_grammar (suc n) limit part small =
    by_next limit part (next_at limit part) refl (λ k e.
    let is = next_item_is limit part k e in
    are_grammar n limit (drop k part) (omega (arith, is.some, is.within, length-drop k part)))

pub some_items : (limit : ℕ) (part : List ℕ) → let t = taken_of limit part in
    (behind : List ℕ) × AreItems limit part t.bodies behind t.fault × (t.fault ≡ None → behind ≡ t.left)
some_items limit part =
    let g = are_grammar (suc (length part)) limit part (omega arith) in
    (g.behind, g.items, g.left)

-- ---- and no others are

abbrev IsTakenAs : ℕ → List ℕ → List (List ℕ) → Option CutFault → Type 0
IsTakenAs limit part bodies fault = ((taken_of limit part).bodies ≡ bodies) × ((taken_of limit part).fault ≡ fault)

stops_as : (limit : ℕ) (part : List ℕ) (fault : CutFault) → next_at limit part ≡ Err fault → IsTakenAs limit part [] (Some fault)
stops_as limit part fault e = let t = taken_fault limit part fault e in (ap (λ (x : Taken). x.bodies) t, ap (λ (x : Taken). x.fault) t)

-- the scan of a part is the answer that has its meaning
scanned : (part : List ℕ) (answer : Scan) → IsAnswer part answer → scan_of part ≡ answer
scanned part answer is = sym (only_answer part answer is)

only_left_of : (limit : ℕ) (part : List ℕ) (fault : Option CutFault) → IsLeft limit fault part → IsTakenAs limit part [] fault
only_left_of limit part None (begun, small) =
    let e : next_at limit part ≡ Ok None = ap (λ (a : Scan). next_of a limit part) (scanned part scan.More begun) ∙ rw (lt-leb limit (length part) small) refl in
    let t = taken_none limit part e in
    (ap (λ (x : Taken). x.bodies) t, ap (λ (x : Taken). x.fault) t)
only_left_of limit part (Some Bad) is = stops_as limit part Bad (ap (λ (a : Scan). next_of a limit part) (scanned part scan.Bad is))
only_left_of limit part (Some Deep) is = stops_as limit part Deep (ap (λ (a : Scan). next_of a limit part) (scanned part scan.Deep is))
only_left_of limit part (Some TooLong) (inl (n, within, above, item)) =
    stops_as limit part TooLong (ap (λ (a : Scan). next_of a limit part) (scanned part (scan.Whole n) (within, item)) ∙ rw (lt-ltb limit n above) refl)
only_left_of limit part (Some TooLong) (inr (begun, long)) =
    stops_as limit part TooLong (ap (λ (a : Scan). next_of a limit part) (scanned part scan.More begun) ∙ rw (le-leb limit (length part) long) refl)
only_left_of limit part (Some UnknownId) never = absurd never

pub only_items : (limit : ℕ) (bodies : List (List ℕ)) (part behind : List ℕ) (fault : Option CutFault) → AreItems limit part bodies behind fault → IsTakenAs limit part bodies fault
only_items limit [] part behind fault is = subst (λ (x : List ℕ). IsTakenAs limit x [] fault) (sym is.joined) (only_left_of limit behind fault is.left)
only_items limit (body ∷ bodies) part behind fault is =
    let rest = concat bodies ++ behind in
    let first = All-head (Fitting limit) body bodies is.each in
    let joined : part ≡ body ++ rest = is.joined ∙ append_assoc body (concat bodies) behind in
    let n = length body in
    let found : scan_of part ≡ scan.Whole n = ap scan_of joined ∙ scan_again body rest first.0 in
    let e : next_at limit part ≡ Ok (Some n) = ap (λ (a : Scan). next_of a limit part) found ∙ rw (le-ltb limit n first.1) refl in
    let front : take n part ≡ body = ap (take n) joined ∙ take_at body rest n refl in
    let after : drop n part ≡ rest = ap (drop n) joined ∙ drop_at body rest n refl in
    let t = taken_some limit n part e in
    let others = only_items limit bodies rest behind fault (record { joined = refl; each = All-tail (Fitting limit) body bodies is.each; left = is.left }) in
    let same : taken_of limit part ≡ with_body body (taken_of limit rest) = t ∙ ap (λ (x : List ℕ). with_body x (taken_of limit (drop n part))) front ∙ ap (λ (x : List ℕ). with_body body (taken_of limit x)) after in
    (ap (λ (x : Taken). x.bodies) same ∙ ap (λ (x : List (List ℕ)). body ∷ x) others.0, ap (λ (x : Taken). x.fault) same ∙ others.1)
