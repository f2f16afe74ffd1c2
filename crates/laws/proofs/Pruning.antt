-- Who is pruned in a part of an event: one that might go, or the one that moved.
use Rattle.std.proofs.Common.{◌+◌, ◌≡◌, true, false, ◌||◌, ◌==◌, find, Some, refl, sym, ap, ◌∙◌, subst, arith, eqb-true}
use Rattle.laws.proofs.Words.{or_left, or_right}
use Rattle.laws.specs.Words.{option_map, unwrap_or, is_candidate, first_to_go, choice_of, awakened, released, has_id, Order, Release, Item, Addr, Cid, Peer, Cold, with_entry, candidates_in, is_used_at, Machine, Entry, entry_at, peer_at}
use Rattle.laws.specs.Words.cause
use Rattle.laws.specs.Acts.{Act, carries, handles_item, does}
use Rattle.laws.specs.Ends.{is_candidate_entry, was_used_at, ends_due, IsPrunedByOrder, IsPrunedIn}
use Rattle.laws.specs.Sound.{IsOrderly}
use Rattle.laws.specs.InActions.{End}
use Rattle.laws.proofs.CarriedOut.{changed-orderly}
use Rattle.laws.proofs.Due.{end_of, woken, EndsAs, ChosenByOrder, ChosenBy, part-ends}
use Rattle.laws.proofs.Entries.{turned-orderly}
use Rattle.laws.proofs.Lawful.{stands-found}
use Rattle.laws.proofs.Lists.{FoundIn, find_some}
use Rattle.laws.proofs.ToldMoves.{turns_at-connections}
use Rattle.laws.proofs.Trims.{Goes, goes_among, found_by_id}
use Rattle.laws.proofs.Waits.{replaced}
use Rattle.laws.proofs.Walk.{Finds, cooled}
use Rattle.laws.proofs.Cases.{by_bool, by_option}

-- whoever is chosen may go, or has moved
pub chosen-goes : (moved : Cid) (m : Machine) → IsOrderly m → (e : Entry) → entry_at (unwrap_or (choice_of (candidates_in m)) moved).0 m ≡ Some e →
    (e.facts.cid.0 == moved.0 || is_candidate e.facts) ≡ true
chosen-goes moved m h e is = by_option (first_to_go (candidates_in m)) (λ o. (e.facts.cid.0 == moved.0 || is_candidate e.facts) ≡ true)
    (λ none.
    let found : entry_at moved.0 m ≡ Some e = subst (λ o. entry_at (unwrap_or (option_map (λ c. c.cid) o) moved).0 m ≡ Some e) none is in
    or_left (e.facts.cid.0 == moved.0) (is_candidate e.facts) (find_some (λ x. has_id moved.0 x.facts) m.connections e found).passes)
    (λ c some.
    let goes : Goes m.connections c = goes_among m.connections c some in
    grind (arith, is, some, found_by_id m goes.entry goes.place c.cid h goes.stands goes.facts.same, goes.facts.may))

-- and was so before that one has turned
chosen-went : (m n : Machine) (old new : Entry) → new.facts.cid ≡ old.facts.cid → n.connections ≡ (with_entry new m).connections → IsOrderly n →
    (e : Entry) → entry_at (unwrap_or (choice_of (candidates_in n)) old.facts.cid).0 n ≡ Some e →
    (e.facts.cid.0 == old.facts.cid.0 || is_candidate_entry (entry_at e.facts.cid.0 m)) ≡ true
chosen-went m n old new same list h e is =
    let at = find_some (λ x. has_id (unwrap_or (choice_of (candidates_in n)) old.facts.cid).0 x.facts) n.connections e is in
    let there : find (λ x. has_id e.facts.cid.0 x.facts) (with_entry new m).connections ≡ Some e =
    subst (λ es. find (λ x. has_id e.facts.cid.0 x.facts) es ≡ Some e) list (found_by_id n e at.place e.facts.cid h at.stands refl) in
    let stood : (e.facts.cid.0 == old.facts.cid.0) ≡ false → entry_at e.facts.cid.0 m ≡ Some e =
    λ apart. grind (arith, apart, same, sym (replaced e.facts.cid.0 new m.connections) ∙ there) in
    grind (arith, stood, chosen-goes old.facts.cid n h e is)

-- ---- an item, and a release

-- it may be pruned for an item
abbrev OfItem : Cid → Machine → End → Type 0
OfItem own m end = (end.cid == own.0 || is_candidate_entry (entry_at end.cid m)) ≡ true

item-chosen : (cid : Cid) (item : Item) (m : Machine) → IsOrderly m → ChosenBy (OfItem cid m) (handles_item cid item) m
item-chosen cid item m h e is f at =
    let place = find_some (λ x. has_id cid.0 x.facts) m.connections e is in
    let new : Entry = record e { facts = awakened item.id e.facts } in
    subst (λ c. (f.facts.cid.0 == c || is_candidate_entry (entry_at f.facts.cid.0 m)) ≡ true) (eqb-true e.facts.cid.0 cid.0 place.passes)
    (chosen-went m (woken item.id e m) e new refl refl (turned-orderly m e new place.place h place.stands (record { same_id = refl; same_addr = refl; live = λ l. l })) f at)

-- the one that is released, or one that may go
abbrev OfRelease : Addr → Machine → End → Type 0
OfRelease addr m end = (was_used_at addr (entry_at end.cid m) || is_candidate_entry (entry_at end.cid m)) ≡ true

release-chosen : (addr : Addr) (m : Machine) → IsOrderly m → ChosenByOrder (OfRelease addr m) (Release addr) m
release-chosen addr m h e is f at =
    let place : FoundIn (is_used_at addr) m.connections e = find_some (is_used_at addr) m.connections e is in
    let new : Entry = record e { facts = released (m.now + m.settings.idle) e.facts } in
    let n : Machine = with_entry new m in
    let cold : Peer → Peer = λ p. record p { temp = Cold } in
    by_bool (f.facts.cid.0 == e.facts.cid.0)
    (λ b. (b || is_candidate_entry (entry_at f.facts.cid.0 m)) ≡ true → OfRelease addr m (end_of f cause.Pruned))
    (λ own may.
    or_left (was_used_at addr (entry_at f.facts.cid.0 m)) (is_candidate_entry (entry_at f.facts.cid.0 m))
    (ap (λ c. was_used_at addr (entry_at c m)) (eqb-true f.facts.cid.0 e.facts.cid.0 own) ∙ (ap (was_used_at addr) (stands-found m e place.place h place.stands) ∙ place.passes)))
    (λ other may. or_right (was_used_at addr (entry_at f.facts.cid.0 m)) (is_candidate_entry (entry_at f.facts.cid.0 m)) may)
    (chosen-went m (cooled e m) e new refl (turns_at-connections (peer_at e.facts.addr n) cold n)
    (changed-orderly (peer_at e.facts.addr n) cold n (turned-orderly m e new place.place h place.stands (record { same_id = refl; same_addr = refl; live = λ l. l }))) f at)

order-chosen : (order : Order) (m : Machine) → IsOrderly m → ChosenByOrder (IsPrunedByOrder order m) order m
order-chosen (Release addr) m h = release-chosen addr m h
order-chosen other m h = tt

-- ---- each act

chosen-by : (act : Act) (m : Machine) → Finds act m → ChosenBy (IsPrunedIn act m) act m
chosen-by (handles_item cid item) m found = item-chosen cid item m found.orderly
chosen-by (carries order) m found = order-chosen order m found.orderly
chosen-by other m found = tt

pub ends-rightly : (act : Act) (m : Machine) → Finds act m → EndsAs (IsPrunedIn act m) (does act m) (ends_due act m)
ends-rightly act m found = part-ends (IsPrunedIn act m) act m (chosen-by act m found)
