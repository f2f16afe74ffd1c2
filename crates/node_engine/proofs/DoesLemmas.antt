-- Parts of a step that are about a connection that stands.
use Rattle.std.proofs.Common.{◌≡◌, List, Option, Some, None, Result, Ok, Err, OnOk, IfSome, refl, sym, subst}
use Rattle.machine.specs.Effect.{Effect}
use Rattle.machine.specs.Machine.{Machine, Entry, entry_at}
use Rattle.net_base.specs.declared.action.Action.{Action}
use Rattle.net_base.specs.declared.connection.Facts.{Facts}
use Rattle.node_engine.specs.State.{Does, DoesSilently, DoesTo, IsKnown}
use Rattle.node_engine.proofs.Doings.{known, of_entry}

pub on_ok : {T E : Type 0} (A B : Type 0) (r : Result T E) → (A → B) → OnOk r A → OnOk r B
on_ok A B (Ok x) gives h = gives h
on_ok A B (Err e) gives h = tt

pub does_silently : (effect : Effect) (before : List Action) (m : Machine) → DoesSilently effect m → Does effect before m before
does_silently effect before m h = record { machine_is = h.machine_is; actions_are = h.tells_nothing before }

pub if_found : (o : Option Entry) (Q : Entry → Type 0) → ((e : Entry) → o ≡ Some e → Q e) → IfSome o Q
if_found None Q gives = tt
if_found (Some e) Q gives = gives e refl

-- what one part did, another one did, by what is known of the connection
pub does_other : {T E : Type 0} (r : Result T E) (facts : Facts) (act other : Entry → Machine → Effect) (old new : Machine) (mid before after : List Action) →
    IsKnown facts old →
    ((e : Entry) → entry_at facts.cid.0 old ≡ Some e → e.facts ≡ facts → Does (act e old) mid new after → Does (other e old) before new after) →
    OnOk r (DoesTo facts.cid.0 act mid old new after) → OnOk r (DoesTo facts.cid.0 other before old new after)
does_other r facts act other old new mid before after there gives =
    let it = known facts old there in
    on_ok (DoesTo facts.cid.0 act mid old new after) (DoesTo facts.cid.0 other before old new after) r
    (λ done. subst (λ o. IfSome o (λ e. Does (other e old) before new after)) (sym it.1)
    (gives it.0 it.1 it.2 (of_entry (λ e. Does (act e old) mid new after) (entry_at facts.cid.0 old) it.0 it.1 done)))
