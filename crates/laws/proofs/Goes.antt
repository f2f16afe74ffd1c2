-- Who goes without this node's doing.
use Rattle.std.proofs.Common.{ℕ, ◌≡◌, Bool, false, List, [], find, flat_map, Option, Some, None, refl, ap, ◌∙◌, subst, eqb-true, arith}
use Rattle.laws.specs.Words.{has_id, Action, Addr, Cid, Facts, lost, vanishes, without_entry, on_entry, closes, dialed, Machine, Entry, entry_at}
use Rattle.net_base.specs.declared.action.Action.TheVariants.{Peer as TellPeer}
use Rattle.laws.specs.Words.note
use Rattle.laws.specs.Acts.{Act, ends_dial, is_closed, does}
use Rattle.laws.specs.CarriedOut.{WhereLive}
use Rattle.laws.specs.Goes.{IsGone, WhereDialing, GoesWhere}
use Rattle.laws.proofs.Lawful.{lost-quiet}
use Rattle.laws.proofs.Lists.{find_some}
use Rattle.laws.proofs.Moments.{gone-none}

-- what comes of a loss is a note on a peer
pub lost-silent : {X : Type 0} (by : Action → List X) → ((addr : Addr) → by (TellPeer addr note.Cold) ≡ []) → (f : Facts) (m : Machine) → flat_map by (lost f m).actions ≡ []
lost-silent by silent f m = grind (arith, silent)

pub vanishes-none : (e : Entry) (m : Machine) → entry_at e.facts.cid.0 (vanishes e m).machine ≡ None
vanishes-none e m = ap (find (λ x. has_id e.facts.cid.0 x.facts)) (lost-quiet e.facts (without_entry e.facts.cid.0 m)).connections ∙ gone-none e.facts.cid.0 m

vanishes-gone : (e : Entry) (m : Machine) → IsGone e.facts.cid.0 (vanishes e m)
vanishes-gone e m = grind (arith, vanishes-none, lost-silent)

own-id : (cid : ℕ) (m : Machine) (e : Entry) → entry_at cid m ≡ Some e → e.facts.cid.0 ≡ cid
own-id cid m e is = eqb-true e.facts.cid.0 cid (find_some (λ x. has_id cid x.facts) m.connections e is).passes

closed-goes : (cid : Cid) (m : Machine) (o : Option Entry) → entry_at cid.0 m ≡ o → WhereLive o (λ e. IsGone cid.0 (on_entry o closes m))
closed-goes cid m None is = tt
closed-goes cid m (Some e) is = λ live. rw live (subst (λ c. IsGone c (vanishes e m)) (own-id cid.0 m e is) (vanishes-gone e m))

failed-goes : (cid : Cid) (opened : Bool) (m : Machine) (o : Option Entry) → entry_at cid.0 m ≡ o → opened ≡ false → WhereDialing o (IsGone cid.0 (on_entry o (dialed opened) m))
failed-goes cid opened m None is failed = tt
failed-goes cid opened m (Some e) is failed = grind (arith, own-id cid.0 m e is, vanishes-gone e m)

pub goes-where : (act : Act) (m : Machine) → GoesWhere act m (does act m)
goes-where (ends_dial cid opened) m = failed-goes cid opened m (entry_at cid.0 m) refl
goes-where (is_closed cid) m = closed-goes cid m (entry_at cid.0 m) refl
goes-where other m = tt
