-- What is answered to what the other side asks.
use Rattle.std.proofs.Common.{ℕ, ◌<◌, ◌≤◌, ◌≡◌, Bool, true, false, not, ◌&&◌, ◌||◌, ◌==◌, min, if◌then◌else◌, List, [], ◌∷◌, ◌++◌, length, map, filter, is_some, Option, Some, None, Result, Ok, Err, refl, sym, ap, ◌∙◌, subst, arith, eqb-true, append-nil}
use Rattle.laws.proofs.Words.{cond_both, false≢true, flat_map-append, position-Some, told_by_group, told_by_roots, each_of_front, told_are_few, list_any_at}
use Rattle.laws.specs.Words.{AllByRecursion, list_any, has_id, is_negotiated_phase, agreed_sharing, frame_of, Item, same_address, Fault, FaultKind, Protocol, Addr, Cid, Phase, Negotiated, Group, Peer, addresses_of, watched, Reply, Seen, is_listed, group_of, is_advertised, most_told, served_to, ending, Effect, then_do, on_entry, Machine, Entry, entry_at, reply_on, handled_in, handled, replies, serves, begins, takes_requests, asked_as, answered_as, on_connection}
use Rattle.peer_book.specs.Book.{peer_at as peer_in}
use Rattle.laws.specs.Acts.{Act, handles_item, does}
use Rattle.laws.specs.Laws.{is_local}
use Rattle.laws.specs.Responders.{WhereSeen, WhereAsked, WhereThere}
use Rattle.laws.specs.Served.{Sent, sent_by, sent_in, is_tellable, MayBeTold, most_in, messages_of, IsAnswered, AnswersRight}
use Rattle.laws.specs.Untouched.{IsAsItWas}
use Rattle.laws.specs.Steady.{IsOrdered}
use Rattle.laws.proofs.Addresses.{same_address-self}
use Rattle.laws.proofs.Lists.{find_some, all-weaker, all-both, filter-all, filter-passing}
use Rattle.laws.proofs.Locals.{not_local-no_member}
use Rattle.laws.proofs.Moments.{ending-none}
use Rattle.laws.proofs.Silent.{sent-deaf, begins-silent, stops-silent}
use Rattle.laws.proofs.Walk.{replies-machine, Finds, found-stands, Scope, on_those, begins-walk}
use Rattle.laws.proofs.Turned.{begun, begins-becomes, given_id}
use Rattle.laws.proofs.WaitsOfParts.{Waited, waits-kept}
use Rattle.laws.proofs.Cases.{by_option}

-- ---- who is told of

advertised-tellable : (m : Machine) (addr : Addr) → is_advertised m.groups m.roots.publics addr ≡ true → is_tellable m addr ≡ true
advertised-tellable m addr h =
    let some_group : Group = record { hot = 0; warm = 0; advertise = false; members = [] } in
    let grouped : Bool = list_any (λ group. group.advertise && is_listed addr group.members) m.groups in
    let apart : Bool = not (is_local m.groups addr) && not (is_listed addr m.roots.publics) in
    by_option (group_of addr m.groups) (λ o. (grouped || apart) ≡ true)
    (λ none. grind (arith, h, none, told_by_roots addr m.groups m.roots.publics none, not_local-no_member addr m.groups))
    (λ place some.
    let at = position-Some (λ group. is_listed addr group.members) m.groups place some_group some in
    let some_passes = list_any_at (λ group. group.advertise && is_listed addr group.members) m.groups place some_group at.0 in
    grind (arith, h, at.1, told_by_group addr m.groups m.roots.publics place some_group some, some_passes))

book-known : (ps : List Peer) → AllByRecursion (λ a. is_some (peer_in a ps) ≡ true) (addresses_of ps)
book-known [] = tt
book-known (p ∷ ps) = grind (arith, same_address-self p.addr, book-known ps, all-weaker)

served-each : (asker : Addr) (n : ℕ) (m : Machine) → AllByRecursion (MayBeTold asker m) (served_to asker n m.peers m.groups m.roots.publics)
served-each asker n m =
    let test : Addr → Bool = λ addr. is_advertised m.groups m.roots.publics addr && not (same_address addr asker) in
    each_of_front (MayBeTold asker m) (min n most_told) (filter test (addresses_of m.peers))
    (all-both (λ a. is_some (peer_in a m.peers) ≡ true) (λ a. test a ≡ true) (MayBeTold asker m) (λ a known passes.
    record { known = known; tellable = advertised-tellable m a (grind (arith, passes)); other = grind (arith, passes) })
    (filter test (addresses_of m.peers)) (filter-all (λ a. is_some (peer_in a m.peers) ≡ true) test (addresses_of m.peers) (book-known m.peers))
    (filter-passing test (addresses_of m.peers)))

-- ---- an answer

-- what is told and sent by it
record Answering (protocol : ℕ) (asker : Addr) (cid now : ℕ) (r : Reply) (after : Machine) (sent : List Sent) : Type 0 where
  told : List Addr
  few : length told ≤ most_in r
  each : AllByRecursion (MayBeTold asker after) told
  sends : sent ≡ map (λ message. record { cid = cid; bytes = frame_of 1 protocol now message }) (messages_of r told)

replies-answer : (r : Reply) (protocol : ℕ) (f : Entry) (m : Machine) → Answering protocol f.facts.addr f.facts.cid.0 m.now r m (sent_in (replies r protocol f m).actions)
replies-answer r protocol f m = grind (arith, told_are_few, served-each)

serves-answer : (seen : Seen) (protocol : ℕ) (f : Entry) (m : Machine) →
    Answering protocol f.facts.addr f.facts.cid.0 m.now seen.reply (serves seen protocol f m).machine (sent_in (serves seen protocol f m).actions)
serves-answer seen protocol f m = grind (arith, replies-answer seen.reply protocol f m, replies-machine seen.reply protocol f m, flat_map-append, stops-silent, sent-deaf, append-nil, all-weaker)

asked-answer : (seen : Seen) (item : Item) (e : Entry) (m : Machine) → e.facts.cid.0 < m.next_id → entry_at e.facts.cid.0 m ≡ Some e →
    WhereThere (entry_at e.facts.cid.0 (asked_as (Ok seen) item.id e m).machine) (λ f. IsAnswered item e seen m (asked_as (Ok seen) item.id e m))
asked-answer seen item e m given stands =
    let first : Effect = begins item.id e m in
    let everything : Scope = on_those (λ cid. true) in
    let now : first.machine.now ≡ m.now =
    (begins-walk everything (Waited everything) (waits-kept everything) item.id e m (found-stands everything e.facts.cid.0 m e stands refl)).unset.now in
    cond_both (takes_requests e) (then_do first (on_connection e.facts.cid (serves seen item.id))) (ending (Fault Protocol) e m)
    (λ effect. WhereThere (entry_at e.facts.cid.0 effect.machine) (λ f. IsAnswered item e seen m effect))
    (λ takes. by_option (entry_at e.facts.cid.0 first.machine)
    (λ o. WhereThere o (λ f. f.facts.addr ≡ e.facts.addr) →
    WhereThere (entry_at e.facts.cid.0 (then_do first (on_entry o (serves seen item.id))).machine) (λ f. IsAnswered item e seen m (then_do first (on_entry o (serves seen item.id)))))
    (λ is here. subst (λ o. WhereThere o (λ f. IsAnswered item e seen m (then_do first (on_entry None (serves seen item.id))))) (sym is) tt)
    (λ f is here.
    let own : f.facts.cid.0 ≡ e.facts.cid.0 = eqb-true f.facts.cid.0 e.facts.cid.0 (find_some (λ x. has_id e.facts.cid.0 x.facts) first.machine.connections f is).passes in
    let second : Effect = serves seen item.id f first.machine in
    let a : Answering item.id e.facts.addr e.facts.cid.0 m.now seen.reply second.machine (sent_in second.actions) =
    subst (λ t. Answering item.id e.facts.addr e.facts.cid.0 t seen.reply second.machine (sent_in second.actions)) now
    (subst (λ c. Answering item.id e.facts.addr c first.machine.now seen.reply second.machine (sent_in second.actions)) own
    (subst (λ x. Answering item.id x f.facts.cid.0 first.machine.now seen.reply second.machine (sent_in second.actions)) here (serves-answer seen item.id f first.machine))) in
    each-there (entry_at e.facts.cid.0 second.machine) (IsAnswered item e seen m (then_do first (serves seen item.id f)))
    (record {
      told = a.told;
      few = a.few;
      each = a.each;
      sends = flat_map-append sent_by first.actions second.actions ∙ (ap (λ xs. xs ++ sent_in second.actions) (begins-silent sent_by sent-deaf item.id e m) ∙ a.sends);
    })) (begun-there (entry_at e.facts.cid.0 first.machine) (begins-becomes item.id e m given stands)))
    (λ other. subst (λ o. WhereThere o (λ f. IsAnswered item e seen m (ending (Fault Protocol) e m))) (sym (ending-none (Fault Protocol) e m)) tt)
  where
    begun-there : (o : Option Entry) → IsAsItWas (Some (begun item.id e)) o → WhereThere o (λ f. f.facts.addr ≡ e.facts.addr)
    begun-there o becomes = grind (arith, becomes)

    each-there : (o : Option Entry) (law : Type 0) → law → WhereThere o (λ f. law)
    each-there o law holds = grind (arith, holds)

asked_by-answer : (r : Result Seen FaultKind) (item : Item) (e : Entry) (m : Machine) → e.facts.cid.0 < m.next_id → entry_at e.facts.cid.0 m ≡ Some e →
    WhereSeen r (λ seen. WhereThere (entry_at e.facts.cid.0 (asked_as r item.id e m).machine) (λ f. IsAnswered item e seen m (asked_as r item.id e m)))
asked_by-answer (Err kind) item e m given stands = tt
asked_by-answer (Ok seen) item e m given stands = asked-answer seen item e m given stands

handled-answer : (p : Phase) (item : Item) (e : Entry) (m : Machine) → e.facts.cid.0 < m.next_id → entry_at e.facts.cid.0 m ≡ Some e → is_negotiated_phase p ≡ true → (item.side == 0) ≡ true →
    WhereSeen (watched item.id (agreed_sharing e.facts.agreed) item.body)
    (λ seen. WhereThere (entry_at e.facts.cid.0 (handled_in p item e m).machine) (λ f. IsAnswered item e seen m (handled_in p item e m)))
handled-answer Negotiated item e m given stands negotiated asks =
    let r : Result Seen FaultKind = watched item.id (agreed_sharing e.facts.agreed) item.body in
    let answer : Bool → Effect = λ b. if b then asked_as r item.id e m else answered_as (reply_on item.id e) item e m in
    subst (λ b. WhereSeen r (λ seen. WhereThere (entry_at e.facts.cid.0 (answer b).machine) (λ f. IsAnswered item e seen m (answer b)))) (sym asks)
    (asked_by-answer r item e m given stands)
handled-answer other item e m given stands negotiated asks = absurd (false≢true negotiated)

item-answer : (own : Cid) (item : Item) (m : Machine) → IsOrdered m → AnswersRight (handles_item own item) m (does (handles_item own item) m)
item-answer own item m h = by_option (entry_at own.0 m)
    (λ o. WhereAsked item o (λ e seen. WhereThere (entry_at own.0 (on_entry o (handled item) m).machine) (λ f. IsAnswered item e seen m (on_entry o (handled item) m))))
    (λ is. tt)
    (λ e is. λ negotiated asks.
    let same : e.facts.cid.0 ≡ own.0 = eqb-true e.facts.cid.0 own.0 (find_some (λ x. has_id own.0 x.facts) m.connections e is).passes in
    subst (λ c. WhereSeen (watched item.id (agreed_sharing e.facts.agreed) item.body)
    (λ seen. WhereThere (entry_at c (handled item e m).machine) (λ f. IsAnswered item e seen m (handled item e m)))) same
    (handled-answer e.facts.phase item e m (given_id m e h (subst (λ c. entry_at c m ≡ Some e) (sym same) is)) (subst (λ c. entry_at c m ≡ Some e) (sym same) is) negotiated asks))

pub answers-right : (act : Act) (m : Machine) → Finds act m → AnswersRight act m (does act m)
answers-right (handles_item cid item) m found = item-answer cid item m found
answers-right other m found = tt
