-- A connection of the record changes, goes or comes.
use Rattle.std.proofs.Common.{ℕ, ◌+◌, ◌≡◌, true, List, [], ◌∷◌, ◌++◌, get_or, set, remove, All, AllPairs, sum_by, IsTrue, refl, sym, ap, ◌∙◌, subst, arith, eq-eqb}
use Rattle.laws.proofs.Words.{All-set, All-push, All-filter, All-weaker, AllPairs-filter, all_pairs_push}
use Rattle.laws.specs.Words.{has_id, is_live, Machine, Entry, with_entry, without_entry}
use Rattle.std.specs.Prelude.{not}
use Rattle.laws.specs.Laws.{DifferInAddress}
use Rattle.laws.specs.Sound.{HasLowerId, HasGivenId, IsOrderly}
use Rattle.laws.proofs.Lists.{StandsAt, All-stands, OnePasses, AllPairs-set, replaced_at, without_at, sum_by-replaced, sum_by-without}

-- since ids rise, at most one connection has an id
pub one_has_id : (cid : ℕ) (es : List Entry) → AllPairs HasLowerId es → OnePasses (λ e. has_id cid e.facts) es
one_has_id cid es rise i j d before inside here = grind (arith, here, rise i j d before inside)

pub has_own_id : (e : Entry) → has_id e.facts.cid.0 e.facts ≡ true
has_own_id e = eq-eqb e.facts.cid.0 e.facts.cid.0 refl

pub has_same_id : (e f : Entry) → f.facts.cid ≡ e.facts.cid → has_id f.facts.cid.0 e.facts ≡ true
has_same_id e f same = eq-eqb e.facts.cid.0 f.facts.cid.0 (sym (ap (λ cid. cid.0) same))

-- what a connection keeps in each change: its id and its address, and once closed it stays closed
pub record TurnsInto (old new : Entry) : Type 0 where
  pub same_id : new.facts.cid ≡ old.facts.cid
  pub same_addr : new.facts.addr ≡ old.facts.addr
  pub live : IsTrue (is_live new.facts) → IsTrue (is_live old.facts)

pub turned-connections : (m : Machine) (old new : Entry) (k : ℕ) → IsOrderly m → StandsAt m.connections k old →
    TurnsInto old new → (with_entry new m).connections ≡ set m.connections k new
turned-connections m old new k h s t = replaced_at (λ e. has_id new.facts.cid.0 e.facts) new old m.connections k
    (one_has_id new.facts.cid.0 m.connections h.ids_rise) s (has_same_id old new t.same_id)

pub turned-orderly : (m : Machine) (old new : Entry) (k : ℕ) → IsOrderly m → StandsAt m.connections k old →
    TurnsInto old new → IsOrderly (with_entry new m)
turned-orderly m old new k h s t =
    let id : new.facts.cid.0 ≡ old.facts.cid.0 = ap (λ cid. cid.0) t.same_id in
    let list : set m.connections k new ≡ (with_entry new m).connections = sym (turned-connections m old new k h s t) in
    let given : HasGivenId m.next_id old = All-stands (HasGivenId m.next_id) m.connections k old s h.ids_given in
    assumption (
      subst (All (HasGivenId m.next_id)) list (All-set (HasGivenId m.next_id) m.connections k new (omega arith) h.ids_given),
      subst (AllPairs HasLowerId) list (AllPairs-set HasLowerId new old m.connections k s (λ y older. omega arith) (λ y older. omega arith) h.ids_rise),
      subst (AllPairs DifferInAddress) list (AllPairs-set DifferInAddress new old m.connections k s
          (λ y own y_live new_live same. own y_live (t.live new_live) (same ∙ t.same_addr))
          (λ y own new_live y_live same. own (t.live new_live) y_live (sym t.same_addr ∙ same)) h.addresses),
    )

-- a sum over the connections, by what the one that changed adds to it
pub turned-sum : (f : Entry → ℕ) (m : Machine) (old new : Entry) (k : ℕ) → IsOrderly m → StandsAt m.connections k old →
    TurnsInto old new → sum_by f (with_entry new m).connections + f old ≡ sum_by f m.connections + f new
turned-sum f m old new k h s t = sum_by-replaced f (λ e. has_id new.facts.cid.0 e.facts) new old m.connections k
    (one_has_id new.facts.cid.0 m.connections h.ids_rise) s (has_same_id old new t.same_id)

pub gone-connections : (m : Machine) (old : Entry) (k : ℕ) → IsOrderly m → StandsAt m.connections k old →
    (without_entry old.facts.cid.0 m).connections ≡ remove m.connections k
gone-connections m old k h s = without_at (λ e. has_id old.facts.cid.0 e.facts) old m.connections k
    (one_has_id old.facts.cid.0 m.connections h.ids_rise) s (has_own_id old)

pub gone-orderly : (m : Machine) (cid : ℕ) → IsOrderly m → IsOrderly (without_entry cid m)
gone-orderly m cid h = assumption (
  All-filter (λ e. not (has_id cid e.facts)) (HasGivenId m.next_id) m.connections h.ids_given,
  AllPairs-filter HasLowerId (λ e. not (has_id cid e.facts)) m.connections h.ids_rise,
  AllPairs-filter DifferInAddress (λ e. not (has_id cid e.facts)) m.connections h.addresses,
)

pub gone-sum : (f : Entry → ℕ) (m : Machine) (old : Entry) (k : ℕ) → IsOrderly m → StandsAt m.connections k old →
    sum_by f (without_entry old.facts.cid.0 m).connections + f old ≡ sum_by f m.connections
gone-sum f m old k h s = sum_by-without f (λ e. has_id old.facts.cid.0 e.facts) old m.connections k
    (one_has_id old.facts.cid.0 m.connections h.ids_rise) s (has_own_id old)

-- the record after a connection has come under the next id
abbrev pub with_new : Entry → Machine → Machine
with_new new m = record m { connections = m.connections ++ new ∷ []; next_id = m.next_id + 1 }

pub come-orderly : (m : Machine) (new : Entry) → IsOrderly m → new.facts.cid.0 ≡ m.next_id →
    All (λ e. DifferInAddress e new) m.connections → IsOrderly (with_new new m)
come-orderly m new h id apart = record {
  settings = h.settings;
  next_id = omega (arith, h.next_id);
  ids_given = All-push (HasGivenId (m.next_id + 1)) m.connections new
      (All-weaker (HasGivenId m.next_id) (HasGivenId (m.next_id + 1)) (λ e given. omega arith) m.connections h.ids_given)
      (omega (arith, h.next_id));
  ids_rise = all_pairs_push HasLowerId m.connections new h.ids_rise
      (λ k d inside. let given : HasGivenId m.next_id (get_or m.connections k d) = h.ids_given k d inside in omega arith);
  addresses = all_pairs_push DifferInAddress m.connections new h.addresses apart;
}
