-- Bytes come in on a connection.
use Rattle.std.proofs.Common.{ℕ, ◌≤◌, ◌≡◌, true, arith, List, [], ◌∷◌, Option, Some, refl, ap, ◌||◌}
use Rattle.laws.proofs.Words.{cond_both}
use Rattle.laws.specs.Words.{FedBy, CutFault, Item, Fault, Cid, Phase, Greeting, Negotiated, has_id, is_live, live_phase, is_greeting_phase, is_negotiated_phase, is_greeting, is_negotiated, kind_of, Machine, Entry, counted_in, entry_at, Effect, then_do, for_each, on_connection, entry_turns, handled_in, handled, handles, faulted, fed_with, comes_in, bytes_come_in}
use Rattle.laws.specs.AtMoves.{fed_on, IsLawful}
use Rattle.laws.specs.Steady.{IsOrdered}
use Rattle.laws.proofs.Handshakes.{greets-trimmed}
use Rattle.laws.proofs.Lawful.{turns-obeys}
use Rattle.laws.proofs.Lists.{StandsAt, find_some}
use Rattle.laws.proofs.Talks.{talks-trimmed}
use Rattle.laws.proofs.Trims.{Trimmed, keeps-trimmed, ending-trimmed, nothing-trimmed, trimmed_then, trimmed-within, for_each_that-trimmed}
use Rattle.laws.proofs.WholeMoves.{decodes-keeps}
use Rattle.laws.proofs.Connects.{stood-cases}
use Rattle.laws.proofs.Items.{IsOpen, turned-open, handles-open}

handled_in-trimmed : (p : Phase) (item : Item) (m : Machine) (e : Entry) (k : ℕ) → e.facts.phase ≡ p → IsOrdered m → counted_in m ≤ m.settings.hard →
    StandsAt m.connections k e → Trimmed IsLawful m (handled_in p item e m)
handled_in-trimmed (Greeting until) item m e k is h within s = greets-trimmed item m e k h within s (ap is_greeting_phase is)
handled_in-trimmed Negotiated item m e k is h within s =
    talks-trimmed item m e k (record { ordered = h; within = within; stands = s; negotiated = ap is_negotiated_phase is })
handled_in-trimmed other item m e k is h within s = nothing-trimmed IsLawful m within h

-- who is found by an id has it
pub found-cid : (cid : Cid) (m : Machine) (e : Entry) → entry_at cid.0 m ≡ Some e → e.facts.cid ≡ cid
found-cid cid m e is = grind (arith, (find_some (λ y. has_id cid.0 y.facts) m.connections e is).passes)

pub handles-trimmed : (cid : Cid) (item : Item) (m : Machine) → IsOrdered m → counted_in m ≤ m.settings.hard →
    Trimmed IsLawful m (handles cid item m)
handles-trimmed cid item m h within = stood-cases cid (handled item) m (Trimmed IsLawful m) (nothing-trimmed IsLawful m within h)
    (λ e k s own. handled_in-trimmed e.facts.phase item m e k refl h within s)

all_handled-open : (cid : Cid) (items : List Item) (m : Machine) → IsOrdered m → counted_in m ≤ m.settings.hard → IsOpen cid.0 m → IsOpen cid.0 (for_each (handles cid) items m).machine
unfolding for_each
all_handled-open cid [] m h within open_ = open_
all_handled-open cid (item ∷ items) m h within open_ =
    let t : Trimmed IsLawful m (handles cid item m) = handles-trimmed cid item m h within in
    all_handled-open cid items (handles cid item m).machine t.ordered (trimmed-within IsLawful m (handles cid item m) t) (handles-open cid item m h open_)

pub faulted-trimmed : (cid : Cid) (fault : Option CutFault) → (m : Machine) → IsOrdered m → counted_in m ≤ m.settings.hard →
    IsOpen cid.0 m → Trimmed IsLawful m (on_connection cid (faulted fault) m)
faulted-trimmed cid fault m h within open_ =
    let ends = λ (f : CutFault) (e : Entry) (is : entry_at cid.0 m ≡ Some e).
    (let at = find_some (λ y. has_id cid.0 y.facts) m.connections e is in ending-trimmed (Fault (kind_of f)) refl m e at.place h within at.stands (open_ e is) (λ negotiated. tt) tt) in
    grind (arith, ends, nothing-trimmed IsLawful m within h)

fed_with-trimmed : (fed : FedBy) (m : Machine) (e : Entry) (k : ℕ) → IsOrdered m → counted_in m ≤ m.settings.hard → StandsAt m.connections k e → is_live e.facts ≡ true →
    Trimmed IsLawful m (fed_with fed e m)
fed_with-trimmed fed m e k h within s live =
    let new : Entry = record e { undecoded = fed.state.undecoded } in
    let first : Effect = entry_turns e new m in
    let fault : Machine → Effect = on_connection e.facts.cid (faulted fed.state.fault) in
    let one : Trimmed IsLawful m first = keeps-trimmed IsLawful m first within (decodes-keeps fed.state.undecoded m e k h s)
    (turns-obeys IsLawful m e new k h.orderly s (record { same_id = refl; same_addr = refl; live = λ l. l }) (record { up = λ up. up; asked = λ asked. asked }) (omega arith)) in
    let n : Machine = first.machine in
    let second : Effect = for_each (handles e.facts.cid) fed.items n in
    let two : Trimmed IsLawful n second =
    for_each_that-trimmed IsLawful (λ settings item. Unit {0}) (handles e.facts.cid) (λ item o h within any. handles-trimmed e.facts.cid item o h within) fed.items n
    one.ordered (trimmed-within IsLawful m first one) (λ place item inside. tt) in
    trimmed_then IsLawful m first (λ m. then_do (for_each (handles e.facts.cid) fed.items m) fault) one
    (trimmed_then IsLawful n second fault two
    (faulted-trimmed e.facts.cid fed.state.fault second.machine two.ordered (trimmed-within IsLawful n second two)
    (all_handled-open e.facts.cid fed.items n one.ordered (trimmed-within IsLawful m first one) (turned-open new m live))))

-- in its handshake or after it a connection is live
pub open-live : (p : Phase) → (is_greeting_phase p || is_negotiated_phase p) ≡ true → live_phase p ≡ true
open-live p h = grind (arith, h)

comes_in-trimmed : (bytes : List ℕ) (m : Machine) (e : Entry) (k : ℕ) → IsOrdered m → counted_in m ≤ m.settings.hard →
    StandsAt m.connections k e → Trimmed IsLawful m (comes_in bytes e m)
comes_in-trimmed bytes m e k h within s = cond_both (is_greeting e.facts || is_negotiated e.facts) _ _ (Trimmed IsLawful m)
    (λ open_now. fed_with-trimmed (fed_on e bytes) m e k h within s (open-live e.facts.phase open_now)) (λ other. nothing-trimmed IsLawful m within h)

pub bytes_come_in-trimmed : (cid : Cid) (bytes : List ℕ) (m : Machine) → IsOrdered m → counted_in m ≤ m.settings.hard →
    Trimmed IsLawful m (bytes_come_in cid bytes m)
bytes_come_in-trimmed cid bytes m h within = stood-cases cid (comes_in bytes) m (Trimmed IsLawful m) (nothing-trimmed IsLawful m within h)
    (λ e k s own. comes_in-trimmed bytes m e k h within s)
