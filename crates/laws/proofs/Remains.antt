-- A responder that started runs.
use Rattle.std.proofs.Common.{ℕ, ◌≡◌, true, Some, refl, ap, ◌∙◌, arith}
use Rattle.laws.specs.Words.{Facts, awakened, has_responder, runs, with_entry, awake, Machine, Entry, entry_at}
use Rattle.laws.proofs.Moments.{turned-found as turned-into}
use Rattle.laws.proofs.Walk.{trim-found}

-- ---- once one turned

pub turned-found : (new x : Entry) (m : Machine) → entry_at new.facts.cid.0 (with_entry new m) ≡ Some x → x ≡ new
turned-found new x m found = grind (arith, found, turned-into new new m refl)

-- ---- a responder that starts runs

pub woken-runs : (protocol : ℕ) (f : Facts) → has_responder protocol ≡ true → runs protocol (awakened protocol f).running ≡ true
woken-runs protocol f known = grind (arith, known)

-- where the connection still stands
pub awake-runs : (protocol : ℕ) (e x : Entry) (m : Machine) → has_responder protocol ≡ true →
    entry_at e.facts.cid.0 (awake protocol e m).machine ≡ Some x → runs protocol x.facts.running ≡ true
awake-runs protocol e x m known found =
    let new : Entry = record e { facts = awakened protocol e.facts } in
    ap (λ y. runs protocol y.facts.running) (turned-found new x m (trim-found e.facts.cid e.facts.cid.0 x (with_entry new m) found))
    ∙ woken-runs protocol e.facts known
