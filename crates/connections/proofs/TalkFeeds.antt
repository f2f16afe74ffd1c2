-- New bytes of a stream that goes on.
use Rattle.std.proofs.Common.{◌≡◌, ℕ, zero, suc, ◌<◌, Bool, true, false, List, [], ◌∷◌, length, get_or, set, slice_get, Option, Some, None, Result, Ok, Err, OnOk, OnErr, IfOk, IfSome, refl, sym, ap, subst, ◌∙◌, arith}
use Rattle.std.proofs.lemmas.Option.{get_or_from_slice_get, slice_get_within}
use Rattle.chunked_list.specs.Changes.{IsChangedAt}
use Rattle.mux_segment.specs.Protocols.{Limits, node_limits}
use Rattle.mux_segment.specs.Stream.{CutterState, nothing_fed, fed_by, fed_after, state_after}
use Rattle.mux_segment.specs.declared.fault.CutFault.{CutFault}
use Rattle.net_base.specs.Shared.{Part, nothing_undecoded}
use Rattle.net_base.specs.declared.connection.Facts.{Facts}
use Rattle.net_base.specs.declared.memory.OutOfMemory.{OutOfMemory}
use Rattle.connections.specs.Standing.{fed_of, fed_entry}
use Rattle.connections.specs.Steps.{unread_if}
use Rattle.connections.specs.Talks.{entry_of, GoesOn, with_cutter, going_on, fed_talk, HasFed, IsFed, TurnsAt}
use Rattle.connections.specs.declared.decoded.Decoded.{Decoded}
use Rattle.connections.specs.declared.talk.Talk.{Talk}

-- after a fault nothing is left
nothing_after : (fault : Option CutFault) (rest : List ℕ) (parts : List Part) →
    IfSome (state_after fault rest parts).fault (λ f. (state_after fault rest parts).undecoded ≡ nothing_undecoded)
nothing_after None rest parts = tt
nothing_after (Some fault) rest parts = refl

pub nothing_left : (limits : Limits) (state : CutterState) (bytes : List ℕ) → state.fault ≡ None →
    IfSome (fed_by limits state bytes).state.fault (λ f. (fed_by limits state bytes).state.undecoded ≡ nothing_undecoded)
unfolding fed_by
nothing_left limits state bytes e =
    subst (λ o. IfSome (fed_after o limits state bytes).state.fault (λ f. (fed_after o limits state bytes).state.undecoded ≡ nothing_undecoded))
    (sym e) (nothing_after _ _ _)

-- the cutter of a stream that goes on
whole : (state : CutterState) → state.fault ≡ None → state ≡ record { undecoded = state.undecoded; fault = None }
whole state e = ap (λ (o : Option CutFault). let s : CutterState = record { undecoded = state.undecoded; fault = o } in s) e

pub fed_entry-talk : (bytes : List ℕ) (f : Facts) (talk : Talk) → GoesOn talk →
    fed_entry bytes (entry_of f talk) ≡ entry_of f (fed_talk bytes talk)
fed_entry-talk bytes f talk belongs =
    ap (λ (s : CutterState). entry_of f (with_cutter (going_on (fed_by node_limits s bytes).state) talk)) (sym (whole talk.cutter belongs))

pub fed_of-talk : (bytes : List ℕ) (f : Facts) (talk : Talk) → GoesOn talk →
    fed_by node_limits talk.cutter bytes ≡ fed_of bytes (entry_of f talk)
fed_of-talk bytes f talk belongs = ap (λ (s : CutterState). fed_by node_limits s bytes) (whole talk.cutter belongs)

pub in_either : {T E : Type 0} (A B C : Type 0) (r : Result T E) → OnOk r A → OnErr r B → (A → C) → (B → C) → C
in_either A B C (Ok x) ok err f g = f ok
in_either A B C (Err e) ok err f g = g err

pub some_weaker : {X : Type 0} (P Q : X → Type 0) (o : Option X) → ((x : X) → P x → Q x) → IfSome o P → IfSome o Q
some_weaker P Q None gives h = tt
some_weaker P Q (Some x) gives h = gives x h

-- ---- what stands at a place, after a change there

pub talk_there : (ts : List Talk) (k : ℕ) → k < length ts → (t : Talk) × (slice_get ts k ≡ Some t)
talk_there [] k inside = absurd (omega (arith, inside))
talk_there (t ∷ ts) zero inside = (t, refl)
talk_there (t ∷ ts) (suc k) inside = talk_there ts k (omega (arith, inside))

get_set : (ts : List Talk) (k : ℕ) (t : Talk) → k < length ts → slice_get (set ts k t) k ≡ Some t
get_set [] k t inside = absurd (omega (arith, inside))
get_set (u ∷ us) zero t inside = refl
get_set (u ∷ us) (suc k) t inside = get_set us k t (omega (arith, inside))

pub said_there : (Q : Talk → Type 0) (ts : List Talk) (k : ℕ) (t : Talk) → slice_get ts k ≡ Some t → IfSome (slice_get ts k) Q → Q t
said_there Q ts k t e h = subst (λ o. IfSome o Q) e h

pub still_inside : (change : Talk → Talk) (ts news : List Talk) (k : ℕ) → k < length ts → TurnsAt k change ts news → k < length news
still_inside change ts news k inside h =
    let there = talk_there ts k inside in
    let is : news ≡ set ts k (change there.0) = said_there (λ t. news ≡ set ts k (change t)) ts k there.0 there.1 h in
    slice_get_within news k (change there.0) (ap (λ us. slice_get us k) is ∙ get_set ts k (change there.0) inside)

-- the replies stay that are owed on one of which nothing more is read
pub replies_stay : (over : Bool) (ts news : List Talk) (k : ℕ) (t u : Talk) → slice_get ts k ≡ Some t → TurnsAt k (unread_if over) ts news →
    u ≡ get_or news k u → u.replies ≡ t.replies
replies_stay over ts news k t u e h at =
    let is : news ≡ set ts k (unread_if over t) = said_there (λ v. news ≡ set ts k (unread_if over v)) ts k t e h in
    let there : slice_get news k ≡ Some (unread_if over t) = ap (λ us. slice_get us k) is ∙ get_set ts k (unread_if over t) (slice_get_within ts k t e) in
    ap (λ (v : Talk). v.replies) (at ∙ get_or_from_slice_get news k (unread_if over t) u there) ∙ stay over t
  where
    stay : (b : Bool) (v : Talk) → (unread_if b v).replies ≡ v.replies
    stay true v = refl
    stay false v = refl

-- what is done to one where it stands
pub changed_at : (change : Talk → Talk) (does : Talk → Talk → Type 0) (ts news : List Talk) (k : ℕ) → k < length ts →
    ((old new : Talk) → does old new → new ≡ change old) → IsChangedAt does k ts news → TurnsAt k change ts news
changed_at change does ts news k inside gives h =
    let there = talk_there ts k inside in
    let is : get_or ts k there.0 ≡ there.0 = get_or_from_slice_get ts k there.0 there.0 there.1 in
    subst (λ o. IfSome o (λ u. news ≡ set ts k (change u))) (sym there.1)
    (h.others_stay ∙ ap (set ts k) (gives (get_or ts k there.0) h.item (h.done there.0) ∙ ap change is))

-- what new bytes make of the one at a place, and what is told
pub record IsFedAt (bytes : List ℕ) (answer : Result Decoded OutOfMemory) (ts news : List Talk) (k : ℕ) : Type 0 where
  pub ok : OnOk answer (TurnsAt k (fed_talk bytes) ts news)
  pub gives : IfOk answer (λ fed. IfSome (slice_get ts k) (λ t. IsFed (fed_by node_limits t.cutter bytes) fed))
  pub err : OnErr answer (TurnsAt k (with_cutter nothing_fed) ts news)

pub fed_at : (bytes : List ℕ) (answer : Result Decoded OutOfMemory) (ts news : List Talk) (k : ℕ) → k < length ts →
    IsChangedAt (λ old new. HasFed bytes old new answer) k ts news → IsFedAt bytes answer ts news k
fed_at bytes (Ok fed) ts news k inside h =
    let there = talk_there ts k inside in
    let is : get_or ts k there.0 ≡ there.0 = get_or_from_slice_get ts k there.0 there.0 there.1 in
    record {
      ok = changed_at (fed_talk bytes) _ ts news k inside (λ old new d. d.ok) h;
      gives = subst (λ o. IfSome o (λ t. IsFed (fed_by node_limits t.cutter bytes) fed)) (sym there.1)
          (subst (λ (t : Talk). IsFed (fed_by node_limits t.cutter bytes) fed) is (h.done there.0).gives);
      err = tt;
    }
fed_at bytes (Err e) ts news k inside h = record {
  ok = tt;
  gives = tt;
  err = changed_at (with_cutter nothing_fed) _ ts news k inside (λ old new d. d.err) h;
}
