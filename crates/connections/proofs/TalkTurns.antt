-- A change of a connection, in the table and in what is kept beside it.
use Rattle.std.proofs.Common.{◌≡◌, ℕ, ◌+◌, ◌<◌, Bool, true, false, not, if◌then◌else◌, List, [], ◌∷◌, ◌++◌, map, set, length, slice_get, Option, Some, None, IfSome, IsSome, IsSomeAnd, Result, Ok, Err, OnOk, is_err, refl, sym, ap, subst, ◌∙◌}
use Rattle.std.specs.List.{remove}
use Rattle.std.proofs.lemmas.List.{set-get_or}
use Rattle.std.proofs.lemmas.Option.{get_or_from_slice_get, slice_get_within}
use Rattle.conn_state.specs.Use.{has_id, facts_at}
use Rattle.conn_table.specs.Finds.{id_place}
use Rattle.conn_table.specs.Table.{Table, IdsRise, moved_at, with_moved, without}
use Rattle.conn_table.proofs.IdPlaces.{get-place, found_id, IdsRise-push, IdsRise-filter, IdsRise-moved}
use Rattle.conn_table.proofs.StateFacts.{some_with}
use Rattle.machine.specs.Machine.{Entry}
use Rattle.net_base.specs.declared.connection.Facts.{Facts}
use Rattle.connections.specs.Standing.{Standing, entry_with, turned, come, gone, Turns}
use Rattle.connections.specs.Talks.{entry_of, entries_of, standing_of, GoesOn, IsStanding, TurnsAt, fresh_talk}
use Rattle.connections.specs.declared.talk.Talk.{Talk}
use Rattle.connections.proofs.TalkPairs.{find_paired, on_facts, StandsAt, stands_at, paired_turned, paired_without, paired_push}

-- ---- the connection that a condition speaks of

pub record Found (P : Facts → Type 0) (cid : ℕ) (t : Table) (ts : List Talk) : Type 0 where
  pub facts : Facts
  pub talk : Talk
  pub at : StandsAt cid t.facts ts facts talk
  pub holds : P facts

pub found : (P : Facts → Type 0) (cid : ℕ) (t : Table) (ts : List Talk) (s : Standing) → IsStanding t ts → standing_of t ts ≡ s →
    IsSomeAnd (entry_with cid s) (λ e. P e.facts) → Found P cid t ts
found P cid t ts s stands is h =
    let here : IsSomeAnd (entry_with cid (standing_of t ts)) (λ e. P e.facts) =
    subst (λ r. IsSomeAnd (entry_with cid r) (λ e. P e.facts)) (sym is) h in
    let there : IsSomeAnd (facts_at cid t.facts) P =
    subst (λ o. IsSomeAnd o P) (find_paired (has_id cid) t.facts ts stands.talks_are) (on_facts P (entry_with cid (standing_of t ts)) here) in
    let some = some_with P (facts_at cid t.facts) there in
    let at = stands_at cid 0 t.given t.facts ts some.0 stands.ids_rise stands.talks_are some.1 in
    record { facts = some.0; talk = at.0; at = at.1; holds = some.2 }

abbrev pub Any : Facts → Type 0
Any f = Unit {0}

-- the connection stands: nothing more is asked of it
pub some_one : (cid : ℕ) (s : Standing) → IsSome (entry_with cid s) → IsSomeAnd (entry_with cid s) (λ e. Unit {0})
some_one cid s h = some (entry_with cid s) h
  where
    some : (o : Option Entry) → IsSome o → IsSomeAnd o (λ e. Unit {0})
    some None k = cc
    some (Some e) k = tt

-- where its facts stand
pub facts_placed : {P : Facts → Type 0} (cid place : ℕ) (t : Table) (ts : List Talk) → IsStanding t ts → (it : Found P cid t ts) →
    place ≡ id_place cid t.facts → slice_get t.facts place ≡ Some it.facts
facts_placed cid place t ts stands it e =
    ap (slice_get t.facts) e ∙ get-place cid 0 t.given t.facts it.facts stands.ids_rise it.at.facts_there

pub place_inside : (cid place : ℕ) (fs : List Facts) (ts : List Talk) (f : Facts) (talk : Talk) → place ≡ id_place cid fs →
    StandsAt cid fs ts f talk → place < length ts
place_inside cid place fs ts f talk e at = subst (λ n. n < length ts) (sym e) (slice_get_within ts (id_place cid fs) talk at.talk_there)

pub talk_at : (Q : Talk → Type 0) (cid place : ℕ) (fs : List Facts) (ts : List Talk) (f : Facts) (talk : Talk) → place ≡ id_place cid fs →
    StandsAt cid fs ts f talk → IfSome (slice_get ts place) Q → Q talk
talk_at Q cid place fs ts f talk e at h = subst (λ o. IfSome o Q) (ap (slice_get ts) e ∙ at.talk_there) h

pub turns_at : (cid place : ℕ) (fs : List Facts) (ts news : List Talk) (f : Facts) (talk : Talk) (change : Talk → Talk) → place ≡ id_place cid fs →
    StandsAt cid fs ts f talk → TurnsAt place change ts news → news ≡ set ts (id_place cid fs) (change talk)
turns_at cid place fs ts news f talk change e at h =
    subst (λ n. news ≡ set ts n (change talk)) e (talk_at (λ t. news ≡ set ts place (change t)) cid place fs ts f talk e at h)

pub stays_at : (ts : List Talk) (k : ℕ) (talk : Talk) → slice_get ts k ≡ Some talk → ts ≡ set ts k talk
stays_at ts k talk e = sym (subst (λ t. set ts k t ≡ ts) (get_or_from_slice_get ts k talk talk e) (set-get_or ts k talk))

moved_by_nothing : (cid : ℕ) (fs : List Facts) → moved_at cid (λ f. f) fs ≡ fs
moved_by_nothing cid [] = refl
moved_by_nothing cid (f ∷ fs) = same (has_id cid f) ∙ ap (λ gs. f ∷ gs) (moved_by_nothing cid fs)
  where
    same : (b : Bool) → (if b then f else f) ∷ moved_at cid (λ g. g) fs ≡ f ∷ moved_at cid (λ g. g) fs
    same true = refl
    same false = refl

-- the facts stay
pub stays_in : (cid : ℕ) (t : Table) → t ≡ with_moved cid (λ f. f) t
stays_in cid t = ap (λ (fs : List Facts). let u : Table = record t { facts = fs } in u) (sym (moved_by_nothing cid t.facts))

-- ---- it turns

pub record IsTurn (cid : ℕ) (change : Entry → Entry) (s : Standing) (t : Table) (ts : List Talk) : Type 0 where
  pub turns : Turns cid change s (standing_of t ts)
  pub stands : IsStanding t ts

pub turn : (cid : ℕ) (move : Facts → Facts) (change : Entry → Entry) (t new : Table) (ts news : List Talk) (f : Facts) (talk talk_then : Talk) (s : Standing) →
    IsStanding t ts → standing_of t ts ≡ s → StandsAt cid t.facts ts f talk → new ≡ with_moved cid move t →
    news ≡ set ts (id_place cid t.facts) talk_then → ((g : Facts) → (move g).cid ≡ g.cid) →
    change (entry_of f talk) ≡ entry_of (move f) talk_then → GoesOn talk_then → IsTurn cid change s new news
turn cid move change t new ts news f talk talk_then s stands is at new_is news_is keeps change_is belongs =
    let paired = paired_turned cid 0 t.given move t.facts ts f talk_then stands.ids_rise stands.talks_are at.facts_there belongs in
    let own : (entry_of (move f) talk_then).facts.cid.0 ≡ cid = ap (λ c. c.0) (keeps f) ∙ found_id cid t.facts f at.facts_there in
    let after : standing_of (with_moved cid move t) (set ts (id_place cid t.facts) talk_then) ≡ turned (entry_of (move f) talk_then) (standing_of t ts) =
    ap (λ (es : List Entry). let r : Standing = record (standing_of t ts) { entries = es } in r)
    (paired.entries_are ∙ ap (λ (n : ℕ). map (λ e. if has_id n e.facts then entry_of (move f) talk_then else e) (entries_of t.facts ts)) (sym own)) in
    let Turned : Standing → Type 0 = λ r. Turns cid change s r in
    let Same : Standing → Type 0 = λ r. Turns cid change r (standing_of (with_moved cid move t) (set ts (id_place cid t.facts) talk_then)) in
    let said : Turns cid change (standing_of t ts) (standing_of (with_moved cid move t) (set ts (id_place cid t.facts) talk_then)) =
    subst (λ o. IfSome o (λ e. standing_of (with_moved cid move t) (set ts (id_place cid t.facts) talk_then) ≡ turned (change e) (standing_of t ts)))
    (sym at.entry_there) (after ∙ ap (λ e. turned e (standing_of t ts)) (sym change_is)) in
    let rises : IdsRise 0 t.given (moved_at cid move t.facts) = IdsRise-moved cid 0 t.given move t.facts keeps stands.ids_rise in
    record {
      turns = subst (λ u. Turned (standing_of u news)) (sym new_is)
          (subst (λ us. Turned (standing_of (with_moved cid move t) us)) (sym news_is) (subst Same is said));
      stands = subst (λ u. IsStanding u news) (sym new_is)
          (subst (IsStanding (with_moved cid move t)) (sym news_is) (record { ids_rise = rises; talks_are = paired.talks_are }));
    }

-- ---- it comes

pub record IsComing (f : Facts) (s : Standing) (t : Table) (ts : List Talk) : Type 0 where
  pub comes : standing_of t ts ≡ come f s
  pub stands : IsStanding t ts

abbrev pub with_facts : Facts → Table → Table
with_facts f t = record t { facts = t.facts ++ f ∷ []; given = t.given + 1 }

pub coming : (f : Facts) (t new : Table) (ts news : List Talk) → IsStanding t ts → new ≡ with_facts f t →
    news ≡ ts ++ fresh_talk ∷ [] → f.cid.0 ≡ t.given + 1 → IsComing f (standing_of t ts) new news
coming f t new ts news stands new_is news_is next =
    let paired = paired_push t.facts ts f fresh_talk stands.talks_are refl in
    let after : standing_of (with_facts f t) (ts ++ fresh_talk ∷ []) ≡ come f (standing_of t ts) =
    ap (λ (es : List Entry). let r : Standing = record (come f (standing_of t ts)) { entries = es } in r) paired.entries_are in
    let rises = IdsRise-push 0 t.given t.facts f stands.ids_rise next in
    record {
      comes = subst (λ u. standing_of u news ≡ come f (standing_of t ts)) (sym new_is)
          (subst (λ us. standing_of (with_facts f t) us ≡ come f (standing_of t ts)) (sym news_is) after);
      stands = subst (λ u. IsStanding u news) (sym new_is)
          (subst (IsStanding (with_facts f t)) (sym news_is) (record { ids_rise = rises; talks_are = paired.talks_are }));
    }

-- ---- it goes

pub record IsGoing (cid : ℕ) (s : Standing) (t : Table) (ts : List Talk) : Type 0 where
  pub goes : standing_of t ts ≡ gone cid s
  pub stands : IsStanding t ts

pub going : (cid : ℕ) (t new : Table) (ts news : List Talk) (f : Facts) (talk : Talk) (s : Standing) →
    IsStanding t ts → standing_of t ts ≡ s → StandsAt cid t.facts ts f talk → new ≡ without cid t →
    news ≡ remove ts (id_place cid t.facts) → IsGoing cid s new news
going cid t new ts news f talk s stands is at new_is news_is =
    let paired = paired_without cid 0 t.given t.facts ts f stands.ids_rise stands.talks_are at.facts_there in
    let after : standing_of (without cid t) (remove ts (id_place cid t.facts)) ≡ gone cid (standing_of t ts) =
    ap (λ (es : List Entry). let r : Standing = record (standing_of t ts) { entries = es } in r) paired.entries_are in
    let rises = IdsRise-filter (λ g. not (has_id cid g)) 0 t.given t.facts stands.ids_rise in
    record {
      goes = subst (λ u. standing_of u news ≡ gone cid s) (sym new_is)
          (subst (λ us. standing_of (without cid t) us ≡ gone cid s) (sym news_is) (after ∙ ap (gone cid) is));
      stands = subst (λ u. IsStanding u news) (sym new_is)
          (subst (IsStanding (without cid t)) (sym news_is) (record { ids_rise = rises; talks_are = paired.talks_are }));
    }

-- ---- what is said where it succeeds

pub ok_said : {T E : Type 0} (A : Type 0) (r : Result T E) → is_err r ≡ false → OnOk r A → A
ok_said A (Ok x) h a = a
ok_said A (Err e) h a = cc

pub when_ok : {T E : Type 0} (A : Type 0) (r : Result T E) → A → OnOk r A
when_ok A (Ok x) a = a
when_ok A (Err e) a = tt
