-- The facts and what is kept beside them, as one list of entries.
use Rattle.std.proofs.Common.{◌≡◌, ℕ, suc, ◌+◌, ◌<◌, ◌≤◌, nat_lt, Bool, true, false, not, if◌then◌else◌, List, [], ◌∷◌, ◌++◌, length, map, filter, find, set, slice_get, Option, Some, None, IsSomeAnd, refl, sym, ap, subst, ◌∙◌, inl, inr, arith}
use Rattle.std.specs.List.{remove}
use Rattle.std.specs.Option.{option_map}
use Rattle.std.proofs.lemmas.Bool.{cases_Bool}
use Rattle.std.proofs.lemmas.Bool.Decides.{nat_tests}
use Rattle.std.proofs.lemmas.Option.{none-some}
use Rattle.conn_state.specs.Use.{has_id, facts_at}
use Rattle.conn_table.specs.Finds.{id_place}
use Rattle.conn_table.specs.Table.{IdsRise, moved_at, without_at}
use Rattle.conn_table.proofs.IdPlaces.{found_here, found_later, none_above, moved_at-above, without_at-above}
use Rattle.machine.specs.Machine.{Entry}
use Rattle.net_base.specs.declared.connection.Facts.{Facts}
use Rattle.connections.specs.Talks.{entry_of, entries_of, GoesOn, AreTalksOf}
use Rattle.connections.specs.declared.talk.Talk.{Talk}

-- ---- what is seen of the facts

pub facts_paired : (fs : List Facts) (ts : List Talk) → AreTalksOf fs ts → map (λ e. e.facts) (entries_of fs ts) ≡ fs
facts_paired [] ts are = refl
facts_paired (f ∷ fs) [] are = absurd are
facts_paired (f ∷ fs) (t ∷ ts) are = ap (λ gs. f ∷ gs) (facts_paired fs ts are.1)

pub find_paired : (p : Facts → Bool) (fs : List Facts) (ts : List Talk) → AreTalksOf fs ts →
    option_map (λ e. e.facts) (find (λ e. p e.facts) (entries_of fs ts)) ≡ find p fs
find_paired p [] ts are = refl
find_paired p (f ∷ fs) [] are = absurd are
find_paired p (f ∷ fs) (t ∷ ts) are = elim (cases_Bool (p f)) [
  | inl here ↦ rw here refl
  | inr other ↦ rw other (find_paired p fs ts are.1)
]

pub on_facts : (P : Facts → Type 0) (o : Option Entry) → IsSomeAnd o (λ e. P e.facts) → IsSomeAnd (option_map (λ e. e.facts) o) P
on_facts P None h = absurd h
on_facts P (Some e) h = h

pub same_length : (fs : List Facts) (ts : List Talk) → AreTalksOf fs ts → length ts ≡ length fs
same_length [] [] are = refl
same_length [] (t ∷ ts) are = absurd are
same_length (f ∷ fs) [] are = absurd are
same_length (f ∷ fs) (t ∷ ts) are = ap suc (same_length fs ts are.1)

-- ---- the place of an id

one_more : (n : ℕ) → 1 + n ≡ suc n
one_more n = omega arith

at_most : (cid : ℕ) (f : Facts) → has_id cid f ≡ true → cid ≤ f.cid.0
at_most cid f h = grind (arith, nat_tests)

here_is_over : (cid : ℕ) (f : Facts) → has_id cid f ≡ true → nat_lt f.cid.0 cid ≡ false
here_is_over cid f h = grind (arith, nat_tests)

over_is : (cid : ℕ) (f : Facts) → nat_lt f.cid.0 cid ≡ false → cid ≤ f.cid.0
over_is cid f h = grind (arith, nat_tests)

place_here : (cid : ℕ) (f : Facts) (fs : List Facts) → has_id cid f ≡ true → id_place cid (f ∷ fs) ≡ 0
place_here cid f fs here = rw (here_is_over cid f here) refl

place_later : (cid above most : ℕ) (g f : Facts) (fs : List Facts) → IdsRise above most (g ∷ fs) → facts_at cid fs ≡ Some f →
    id_place cid (g ∷ fs) ≡ suc (id_place cid fs)
place_later cid above most g f fs rises found = elim (cases_Bool (nat_lt g.cid.0 cid)) [
  | inl low ↦ rw low (one_more (id_place cid fs))
  | inr high ↦ absurd (none-some f (sym (none_above cid g.cid.0 most fs rises.1 (over_is cid g high)) ∙ found))
]

-- what stands at the place of an id
pub record StandsAt (cid : ℕ) (fs : List Facts) (ts : List Talk) (f : Facts) (talk : Talk) : Type 0 where
  pub facts_there : facts_at cid fs ≡ Some f
  pub talk_there : slice_get ts (id_place cid fs) ≡ Some talk
  pub entry_there : find (λ e. has_id cid e.facts) (entries_of fs ts) ≡ Some (entry_of f talk)
  pub belongs : GoesOn talk

pub stands_at : (cid above most : ℕ) (fs : List Facts) (ts : List Talk) (f : Facts) → IdsRise above most fs → AreTalksOf fs ts →
    facts_at cid fs ≡ Some f → (talk : Talk) × StandsAt cid fs ts f talk
stands_at cid above most [] ts f rises are found = absurd (none-some f found)
stands_at cid above most (g ∷ gs) [] f rises are found = absurd are
stands_at cid above most (g ∷ gs) (t ∷ ts) f rises are found = elim (cases_Bool (has_id cid g)) [
  | inl here ↦
      let same : g ≡ f = found_here cid g f gs found here in (
        t,
        record {
          facts_there = found;
          talk_there = rw (place_here cid g gs here) refl;
          entry_there = rw here (ap (λ h. Some (entry_of h t)) same);
          belongs = are.0;
        },
      )
  | inr other ↦
      let later = found_later cid g f gs found other in
      let rest = stands_at cid g.cid.0 most gs ts f rises.1 are.1 later in (
        rest.0,
        record {
          facts_there = found;
          talk_there = rw (place_later cid above most g f gs rises later) rest.1.talk_there;
          entry_there = rw other rest.1.entry_there;
          belongs = rest.1.belongs;
        },
      )
]

-- ---- behind an id

entries_above : (cid above most : ℕ) (new : Entry) (fs : List Facts) (ts : List Talk) → IdsRise above most fs → cid ≤ above →
    map (λ e. if has_id cid e.facts then new else e) (entries_of fs ts) ≡ entries_of fs ts
entries_above cid above most new [] ts rises le = refl
entries_above cid above most new (f ∷ fs) [] rises le = refl
entries_above cid above most new (f ∷ fs) (t ∷ ts) rises le =
    let lower : cid ≤ f.cid.0 = omega (arith, rises.0, le) in
    rw (higher_id (omega (arith, rises.0, le)))
    (ap (λ es. entry_of f t ∷ es) (entries_above cid f.cid.0 most new fs ts rises.1 lower))
  where
    higher_id : cid < f.cid.0 → has_id cid f ≡ false
    higher_id h = grind (arith, nat_tests)

entries_kept : (cid above most : ℕ) (fs : List Facts) (ts : List Talk) → IdsRise above most fs → cid ≤ above →
    filter (λ e. not (has_id cid e.facts)) (entries_of fs ts) ≡ entries_of fs ts
entries_kept cid above most [] ts rises le = refl
entries_kept cid above most (f ∷ fs) [] rises le = refl
entries_kept cid above most (f ∷ fs) (t ∷ ts) rises le =
    let lower : cid ≤ f.cid.0 = omega (arith, rises.0, le) in
    rw (higher_id (omega (arith, rises.0, le)))
    (ap (λ es. entry_of f t ∷ es) (entries_kept cid f.cid.0 most fs ts rises.1 lower))
  where
    higher_id : cid < f.cid.0 → has_id cid f ≡ false
    higher_id h = grind (arith, nat_tests)

-- ---- a connection turns

pub record ArePaired (es : List Entry) (fs : List Facts) (ts : List Talk) : Type 0 where
  pub entries_are : entries_of fs ts ≡ es
  pub talks_are : AreTalksOf fs ts

pub paired_turned : (cid above most : ℕ) (move : Facts → Facts) (fs : List Facts) (ts : List Talk) (f : Facts) (new : Talk) →
    IdsRise above most fs → AreTalksOf fs ts → facts_at cid fs ≡ Some f → GoesOn new →
    ArePaired (map (λ e. if has_id cid e.facts then entry_of (move f) new else e) (entries_of fs ts))
    (moved_at cid move fs) (set ts (id_place cid fs) new)
paired_turned cid above most move [] ts f new rises are found belongs = absurd (none-some f found)
paired_turned cid above most move (g ∷ gs) [] f new rises are found belongs = absurd are
paired_turned cid above most move (g ∷ gs) (t ∷ ts) f new rises are found belongs = elim (cases_Bool (has_id cid g)) [
  | inl here ↦
      let same : g ≡ f = found_here cid g f gs found here in
      let rest : moved_at cid move gs ≡ gs = moved_at-above cid g.cid.0 most move gs rises.1 (at_most cid g here) in
      let Turned : Facts → Type 0 = λ h. entries_of (moved_at cid move (g ∷ gs)) (set (t ∷ ts) (id_place cid (g ∷ gs)) new)
      ≡ map (λ e. if has_id cid e.facts then entry_of (move h) new else e) (entries_of (g ∷ gs) (t ∷ ts)) in
      record {
        entries_are = subst Turned same (rw (place_here cid g gs here, here, rest)
            (ap (λ es. entry_of (move g) new ∷ es) (sym (entries_above cid g.cid.0 most (entry_of (move g) new) gs ts rises.1 (at_most cid g here)))));
        talks_are = rw (place_here cid g gs here, rest) (belongs, are.1);
      }
  | inr other ↦
      let later = found_later cid g f gs found other in
      let rest = paired_turned cid g.cid.0 most move gs ts f new rises.1 are.1 later belongs in
      record {
        entries_are = rw (place_later cid above most g f gs rises later, other) (ap (λ es. entry_of g t ∷ es) rest.entries_are);
        talks_are = rw (place_later cid above most g f gs rises later) (are.0, rest.talks_are);
      }
]

-- ---- a connection goes

pub paired_without : (cid above most : ℕ) (fs : List Facts) (ts : List Talk) (f : Facts) →
    IdsRise above most fs → AreTalksOf fs ts → facts_at cid fs ≡ Some f →
    ArePaired (filter (λ e. not (has_id cid e.facts)) (entries_of fs ts)) (without_at cid fs) (remove ts (id_place cid fs))
paired_without cid above most [] ts f rises are found = absurd (none-some f found)
paired_without cid above most (g ∷ gs) [] f rises are found = absurd are
paired_without cid above most (g ∷ gs) (t ∷ ts) f rises are found = elim (cases_Bool (has_id cid g)) [
  | inl here ↦
      let rest : without_at cid gs ≡ gs = without_at-above cid g.cid.0 most gs rises.1 (at_most cid g here) in
      record {
        entries_are = rw (place_here cid g gs here, here, rest) (sym (entries_kept cid g.cid.0 most gs ts rises.1 (at_most cid g here)));
        talks_are = rw (place_here cid g gs here, here, rest) are.1;
      }
  | inr other ↦
      let later = found_later cid g f gs found other in
      let rest = paired_without cid g.cid.0 most gs ts f rises.1 are.1 later in
      record {
        entries_are = rw (place_later cid above most g f gs rises later, other) (ap (λ es. entry_of g t ∷ es) rest.entries_are);
        talks_are = rw (place_later cid above most g f gs rises later, other) (are.0, rest.talks_are);
      }
]

-- ---- a connection comes

pub paired_push : (fs : List Facts) (ts : List Talk) (f : Facts) (t : Talk) → AreTalksOf fs ts → GoesOn t →
    ArePaired (entries_of fs ts ++ entry_of f t ∷ []) (fs ++ f ∷ []) (ts ++ t ∷ [])
paired_push [] [] f t are belongs = record { entries_are = refl; talks_are = (belongs, tt) }
paired_push [] (u ∷ us) f t are belongs = absurd are
paired_push (g ∷ gs) [] f t are belongs = absurd are
paired_push (g ∷ gs) (u ∷ us) f t are belongs =
    let rest = paired_push gs us f t are.1 belongs in
    record {
      entries_are = ap (λ es. entry_of g u ∷ es) rest.entries_are;
      talks_are = (are.0, rest.talks_are);
    }
