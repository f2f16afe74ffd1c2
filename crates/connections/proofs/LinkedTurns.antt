-- The links are those of the connections: that is so after each change of a connection.
use Rattle.std.proofs.Common.{◌≡◌, Bool, true, false, not, cond, ◌&&◌, ◌||◌, List, [], ◌∷◌, ◌++◌, map, find, Option, Some, None, IfSome, IsSome, IsSomeAnd, refl, sym, ap, subst, ◌∙◌, inl, inr, arith}
use Rattle.std.specs.List.{AllByRecursion, list_any}
use Rattle.std.specs.Option.{option_map}
use Rattle.std.proofs.lemmas.Bool.{cases_Bool, and_right, true≢false}
use Rattle.std.proofs.lemmas.Bool.Decides.{nat_tests}
use Rattle.std.proofs.lemmas.List.{map-append}
use Rattle.std.proofs.lemmas.List.Folds.{list_any-append}
use Rattle.std.proofs.lemmas.Option.{none-some, same_Some}
use Rattle.conn_state.specs.Use.{has_id}
use Rattle.conn_table.specs.Index.{placed_of, same_placed}
use Rattle.conn_table.specs.declared.placed.Placed.{Placed}
use Rattle.govern_rules.specs.SortedLinks.{SaySame}
use Rattle.govern_rules.specs.declared.link.Link.{Link}
use Rattle.machine.specs.Govern.{link_of}
use Rattle.machine.specs.Machine.{Entry, fresh_entry}
use Rattle.net_base.specs.Address.{same_address}
use Rattle.net_base.specs.declared.address.Addr.{Addr}
use Rattle.net_base.specs.declared.connection.Cid.{Cid}
use Rattle.net_base.specs.declared.connection.Facts.{Facts}
use Rattle.net_base.proofs.AddressOrder.{same_address-itself}
use Rattle.timer_queue.specs.Order.{IsRising}
use Rattle.timer_queue.specs.Queue.{Queue}
use Rattle.timer_queue.specs.Timers.{same_cid, cid_below}
use Rattle.timer_queue.proofs.Orders.{cid_order}
use Rattle.timer_queue.proofs.Rising.{find-replaced}
use Rattle.links.specs.Link.{place_of}
use Rattle.links.specs.Rows.{stands_at, HaveSameLinks, with_new, with_link, without_link}
use Rattle.links.proofs.LinkEdits.{any-new, same-with_link, same-without_link, left_again}
use Rattle.connections.specs.Linked.{links_in, sight_of, IsLinked, IsLinkedWith, IsLinkedBut, IsLinkedIf}
use Rattle.connections.specs.Standing.{Standing, entry_with, turned, come, gone, Turns}
use Rattle.connections.specs.Timed.{ids_in, IsTimed}
use Rattle.connections.specs.declared.sight.Sight.{Sight}
use Rattle.connections.proofs.TimedTurns.{id_of, turned_in, others_in, stands_as, own_id, found_one, if_found}

abbrev links_of : List Entry → List Link
links_of es = map link_of es

abbrev AreRising : List Entry → Type 0
AreRising es = IsRising cid_below (λ c. c) (map id_of es)

pub ids-rise : (s : Standing) (queue : Queue) → IsTimed s queue → IsRising cid_below (λ c. c) (ids_in s)
ids-rise s queue timed = subst (IsRising cid_below (λ c. c)) timed.enrolled timed.orderly.ids_rise

-- ---- an id tells one place

abbrev TellsPlace : Placed → List Entry → Type 0
TellsPlace placed es = AllByRecursion (λ e. same_cid e.facts.cid placed.cid ≡ same_placed (placed_of e.facts) placed) es

by_address : (a b : Bool) → (b ≡ true → a ≡ true) → b ≡ (a && b)
by_address a true h = sym (ap (λ c. c && true) (h refl))
by_address a false h = sym (and_right a false refl)

tells-none : (placed : Placed) (e : Entry) → same_cid e.facts.cid placed.cid ≡ false →
    same_cid e.facts.cid placed.cid ≡ same_placed (placed_of e.facts) placed
tells-none placed e other = by_address (same_address e.facts.addr placed.addr) (same_cid e.facts.cid placed.cid) (λ h. absurd (true≢false (sym h ∙ other)))

tells-above : (placed : Placed) (es : List Entry) → AllByRecursion (λ c. cid_below placed.cid c ≡ true) (map id_of es) → TellsPlace placed es
tells-above placed [] above = tt
tells-above placed (e ∷ es) above =
    let other : same_cid e.facts.cid placed.cid ≡ false = grind (arith, nat_tests, above.0) in
    (tells-none placed e other, tells-above placed es above.1)

tells : (placed : Placed) (es : List Entry) (old : Entry) → AreRising es → find (λ e. has_id placed.cid.0 e.facts) es ≡ Some old →
    old.facts.addr ≡ placed.addr → TellsPlace placed es
tells placed [] old rises found at = tt
tells placed (e ∷ es) old rises found at = elim (cases_Bool (same_cid e.facts.cid placed.cid)) [
  | inl here ↦
      let is : e ≡ old = same_Some e old (rw here at found) in
      let same : same_address e.facts.addr placed.addr ≡ true =
      ap (λ (a : Addr). same_address a placed.addr) (ap (λ (x : Entry). x.facts.addr) is ∙ at) ∙ same_address-itself placed.addr in
      let above : AllByRecursion (λ c. cid_below placed.cid c ≡ true) (map id_of es) =
      subst (λ (c : Cid). AllByRecursion (λ k. cid_below c k ≡ true) (map id_of es)) (cid_order.same_is e.facts.cid placed.cid here) rises.0 in
      (by_address (same_address e.facts.addr placed.addr) (same_cid e.facts.cid placed.cid) (λ h. same), tells-above placed es above)
  | inr other ↦ (tells-none placed e other, tells placed es old rises.1 (rw other at found) at)
]

-- ---- links of connections that change

link-chosen : (b : Bool) (x y : Entry) → link_of (cond b x y) ≡ cond b (link_of x) (link_of y)
link-chosen true x y = refl
link-chosen false x y = refl

links-turned : (new : Entry) (es : List Entry) → TellsPlace (placed_of new.facts) es → links_of (turned_in new es) ≡ with_link (link_of new) (links_of es)
links-turned new [] told = refl
links-turned new (e ∷ es) told =
    let first : Link = cond (same_placed (placed_of e.facts) (placed_of new.facts)) (link_of new) (link_of e) in
    ap (λ l. l ∷ links_of (turned_in new es))
    (link-chosen (same_cid e.facts.cid new.facts.cid) new e ∙ ap (λ b. cond b (link_of new) (link_of e)) told.0)
    ∙ ap (λ ls. first ∷ ls) (links-turned new es told.1)

links-kept : (b : Bool) (e : Entry) (es : List Entry) (links : List Link) → links_of es ≡ links →
    links_of (cond (not b) (e ∷ es) es) ≡ cond (not b) (link_of e ∷ links) links
links-kept true e es links same = same
links-kept false e es links same = ap (λ ls. link_of e ∷ ls) same

links-gone : (placed : Placed) (es : List Entry) → TellsPlace placed es → links_of (others_in placed.cid es) ≡ without_link placed (links_of es)
links-gone placed [] told = refl
links-gone placed (e ∷ es) told =
    links-kept (same_cid e.facts.cid placed.cid) e (others_in placed.cid es) (without_link placed (links_of es)) (links-gone placed es told.1)
    ∙ ap (λ b. cond (not b) (link_of e ∷ without_link placed (links_of es)) (without_link placed (links_of es))) told.0

-- one that stands has a link
stands-found : (placed : Placed) (es : List Entry) (old : Entry) → TellsPlace placed es → find (λ e. has_id placed.cid.0 e.facts) es ≡ Some old →
    stands_at placed (links_of es) ≡ true
stands-found placed [] old told found = absurd (none-some old found)
stands-found placed (e ∷ es) old told found = elim (cases_Bool (same_cid e.facts.cid placed.cid)) [
  | inl here ↦ rw (sym told.0 ∙ here) refl
  | inr other ↦ or_right_true (same_placed (placed_of e.facts) placed) (stands_at placed (links_of es))
      (stands-found placed es old told.1 (rw other at found))
]
  where
    or_right_true : (a b : Bool) → b ≡ true → (a || b) ≡ true
    or_right_true true b h = refl
    or_right_true false b h = h

-- ---- the connection turns

turned_but_by : (cid : Cid) (new old : Entry) (s : Standing) (links : List Link) → IsLinked s links → AreRising s.entries →
    entry_with cid.0 s ≡ Some old → new.facts.cid ≡ cid → old.facts.addr ≡ new.facts.addr → IsLinkedBut cid (turned new s) links
turned_but_by cid new old s links linked rises there own at =
    let found : entry_with new.facts.cid.0 s ≡ Some old = ap (λ (c : Cid). entry_with c.0 s) own ∙ there in
    let told : TellsPlace (placed_of new.facts) s.entries = tells (placed_of new.facts) s.entries old rises found at in
    let stands : IsSome (entry_with new.facts.cid.0 s) = subst IsSome (sym found) refl in
    let now : entry_with cid.0 (turned new s) ≡ Some new =
    ap (λ (c : Cid). entry_with c.0 (turned new s)) (sym own)
    ∙ find-replaced cid_below same_cid cid_order id_of new.facts.cid new s.entries (cid_order.same_itself new.facts.cid)
    (sym (stands_as new.facts.cid s.entries) ∙ stands) in
    subst (λ o. IsSomeAnd o (λ e. IsLinkedWith (link_of e) (turned new s) links)) (sym now) record {
      there = linked (λ l. same_placed (place_of l) (placed_of new.facts)) ∙ stands-found (placed_of new.facts) s.entries old told found;
      same = subst (HaveSameLinks (with_link (link_of new) links)) (sym (links-turned new s.entries told))
          (same-with_link (link_of new) links (links_in s) linked);
    }

-- a change of a connection leaves the links of every other one
pub linked_but : (cid : Cid) (change : Entry → Entry) (old new : Standing) (queue : Queue) (links : List Link) → IsTimed old queue → IsLinked old links →
    IsSome (entry_with cid.0 old) → ((e : Entry) → placed_of (change e).facts ≡ placed_of e.facts) → Turns cid.0 change old new → IsLinkedBut cid new links
linked_but cid change old new queue links timed linked there keeps turns =
    let it = found_one (entry_with cid.0 old) there in
    let is : new ≡ turned (change it.0) old = if_found (λ e. new ≡ turned (change e) old) (entry_with cid.0 old) it.0 it.1 turns in
    subst (λ s. IsLinkedBut cid s links) (sym is)
    (turned_but_by cid (change it.0) it.0 old links linked (ids-rise old queue timed) it.1
    (ap (λ (p : Placed). p.cid) (keeps it.0) ∙ own_id cid old.entries it.0 it.1) (sym (ap (λ (p : Placed). p.addr) (keeps it.0))))

-- its link is put in its place
pub linked_again : (cid : Cid) (s : Standing) (old new : List Link) (e : Entry) (link : Link) → IsLinkedBut cid s old → entry_with cid.0 s ≡ Some e →
    link ≡ link_of e → new ≡ with_link link old → IsLinked s new
linked_again cid s old new e link but found is put =
    let right : IsLinkedWith (link_of e) s old = subst (λ o. IsSomeAnd o (λ x. IsLinkedWith (link_of x) s old)) found but in
    subst (IsLinked s) (sym (put ∙ ap (λ l. with_link l old) is)) right.same

pub has_link : (cid : Cid) (s : Standing) (links : List Link) (e : Entry) (link : Link) → IsLinkedBut cid s links → entry_with cid.0 s ≡ Some e →
    link ≡ link_of e → stands_at (place_of link) links ≡ true
has_link cid s links e link but found is =
    let right : IsLinkedWith (link_of e) s links = subst (λ o. IsSomeAnd o (λ x. IsLinkedWith (link_of x) s links)) found but in
    ap (λ (l : Link). stands_at (place_of l) links) is ∙ right.there

-- it stands there already
pub linked_still : (seen : Sight) (cid : Cid) (s : Standing) (links : List Link) (e : Entry) → IsLinkedIf seen cid s links → entry_with cid.0 s ≡ Some e →
    sight_of e ≡ seen → IsLinked s links
linked_still seen cid s links e if found is = if_found (λ x. sight_of x ≡ seen → IsLinked s links) (entry_with cid.0 s) e found if is

-- ---- its link stays

links-same : (new old : Entry) (es : List Entry) → link_of new ≡ link_of old → find (λ e. has_id new.facts.cid.0 e.facts) es ≡ Some old →
    AreRising es → links_of (turned_in new es) ≡ links_of es
links-same new old [] same found rises = refl
links-same new old (e ∷ es) same found rises = elim (cases_Bool (same_cid e.facts.cid new.facts.cid)) [
  | inl here ↦
      let is : e ≡ old = same_Some e old (rw here at found) in
      let above : AllByRecursion (λ c. cid_below new.facts.cid c ≡ true) (map id_of es) =
      subst (λ (c : Cid). AllByRecursion (λ k. cid_below c k ≡ true) (map id_of es)) (cid_order.same_is e.facts.cid new.facts.cid here) rises.0 in
      rw here (ap (λ l. l ∷ links_of (turned_in new es)) (same ∙ ap link_of (sym is)) ∙ ap (λ l. link_of e ∷ l) (stays es above))
  | inr other ↦ rw other (ap (λ l. link_of e ∷ l) (links-same new old es same (rw other at found) rises.1))
]
  where
    stays : (xs : List Entry) → AllByRecursion (λ c. cid_below new.facts.cid c ≡ true) (map id_of xs) → links_of (turned_in new xs) ≡ links_of xs
    stays [] above = refl
    stays (x ∷ xs) above =
        let other : same_cid x.facts.cid new.facts.cid ≡ false = grind (arith, nat_tests, above.0) in
        rw other (ap (λ l. link_of x ∷ l) (stays xs above.1))

-- a link by where its connection stands, and what is seen of it
abbrev link_with : Placed → Sight → Link
link_with placed seen = record {
  addr = placed.addr;
  cid = placed.cid;
  live = seen.live;
  acquirable = seen.acquirable;
  pending = seen.pending;
  local = seen.local;
  sharing = seen.sharing;
  owes2 = seen.owes2;
  owes8 = seen.owes8;
  owes10 = seen.owes10;
}

-- where what is seen of it is what was seen, the links stay
pub linked_if : (cid : Cid) (change : Entry → Entry) (seen : Sight) (old new : Standing) (queue : Queue) (links : List Link) → IsTimed old queue →
    IsLinked old links → IsSome (entry_with cid.0 old) → ((e : Entry) → placed_of (change e).facts ≡ placed_of e.facts) →
    IfSome (entry_with cid.0 old) (λ e. seen ≡ sight_of e) → Turns cid.0 change old new → IsLinkedIf seen cid new links
linked_if cid change seen old new queue links timed linked there keeps was turns =
    let it = found_one (entry_with cid.0 old) there in
    let e : Entry = change it.0 in
    let is : new ≡ turned e old = if_found (λ x. new ≡ turned (change x) old) (entry_with cid.0 old) it.0 it.1 turns in
    let before : seen ≡ sight_of it.0 = if_found (λ x. seen ≡ sight_of x) (entry_with cid.0 old) it.0 it.1 was in
    let own : e.facts.cid ≡ cid = ap (λ (p : Placed). p.cid) (keeps it.0) ∙ own_id cid old.entries it.0 it.1 in
    let found : entry_with e.facts.cid.0 old ≡ Some it.0 = ap (λ (c : Cid). entry_with c.0 old) own ∙ it.1 in
    let now : entry_with cid.0 (turned e old) ≡ Some e =
    ap (λ (c : Cid). entry_with c.0 (turned e old)) (sym own)
    ∙ find-replaced cid_below same_cid cid_order id_of e.facts.cid e old.entries (cid_order.same_itself e.facts.cid)
    (sym (stands_as e.facts.cid old.entries) ∙ subst IsSome (sym found) refl) in
    subst (λ s. IsLinkedIf seen cid s links) (sym is)
    (subst (λ o. IfSome o (λ x. sight_of x ≡ seen → IsLinked (turned e old) links)) (sym now) (λ same.
    let stays : link_of e ≡ link_of it.0 = ap (λ p. link_with p (sight_of e)) (keeps it.0) ∙ ap (link_with (placed_of it.0.facts)) (same ∙ before) in
    subst (HaveSameLinks links)
    (sym (links-same e it.0 old.entries stays found (ids-rise old queue timed))) linked))

pub linked_same : (cid : Cid) (change : Entry → Entry) (old new : Standing) (queue : Queue) (links : List Link) → IsTimed old queue → IsLinked old links →
    IsSome (entry_with cid.0 old) → ((e : Entry) → link_of (change e) ≡ link_of e) → Turns cid.0 change old new → IsLinked new links
linked_same cid change old new queue links timed linked there same turns =
    let it = found_one (entry_with cid.0 old) there in
    let is : new ≡ turned (change it.0) old = if_found (λ e. new ≡ turned (change e) old) (entry_with cid.0 old) it.0 it.1 turns in
    let own : (change it.0).facts.cid ≡ cid = ap (λ (l : Link). l.cid) (same it.0) ∙ own_id cid old.entries it.0 it.1 in
    let found : entry_with (change it.0).facts.cid.0 old ≡ Some it.0 = ap (λ (c : Cid). entry_with c.0 old) own ∙ it.1 in
    subst (λ s. IsLinked s links) (sym is)
    (subst (HaveSameLinks links) (sym (links-same (change it.0) it.0 old.entries (same it.0) found (ids-rise old queue timed))) linked)

-- ---- a connection comes

absent_id : (placed : Placed) (es : List Entry) → AllByRecursion (λ c. cid_below c placed.cid ≡ true) (map id_of es) →
    stands_at placed (links_of es) ≡ false
absent_id placed [] below = refl
absent_id placed (e ∷ es) below =
    let other : same_cid e.facts.cid placed.cid ≡ false = grind (arith, nat_tests, below.0) in
    rw (sym (tells-none placed e other) ∙ other) (absent_id placed es below.1)

-- no link has the next id
pub no_link : (placed : Placed) (s : Standing) (links : List Link) → IsLinked s links → AllByRecursion (λ c. cid_below c placed.cid ≡ true) (ids_in s) →
    stands_at placed links ≡ false
no_link placed s links linked below = linked (λ l. same_placed (place_of l) placed) ∙ absent_id placed s.entries below

pub found_last : (new : Entry) (es : List Entry) → AllByRecursion (λ c. cid_below c new.facts.cid ≡ true) (map id_of es) →
    find (λ e. has_id new.facts.cid.0 e.facts) (es ++ new ∷ []) ≡ Some new
found_last new [] below = rw (cid_order.same_itself new.facts.cid) refl
found_last new (e ∷ es) below =
    let other : same_cid e.facts.cid new.facts.cid ≡ false = grind (arith, nat_tests, below.0) in
    rw other (found_last new es below.1)

pub come_linked : (f : Facts) (link : Link) (s : Standing) (old new : List Link) → IsLinked s old → link ≡ link_of (fresh_entry f) → new ≡ with_new link old →
    IsLinked (come f s) new
come_linked f link s old new linked is put =
    subst (IsLinked (come f s)) (sym (put ∙ ap (λ l. with_new l old) is)) (λ test.
    any-new test (link_of (fresh_entry f)) old
    ∙ (ap (λ b. test (link_of (fresh_entry f)) || b) (linked test)
    ∙ (last (test (link_of (fresh_entry f))) (list_any test (links_in s))
    ∙ (sym (list_any-append test (links_in s) (link_of (fresh_entry f) ∷ []))
    ∙ ap (list_any test) (sym (map-append link_of s.entries (fresh_entry f ∷ [])))))))
  where
    last : (a b : Bool) → (a || b) ≡ (b || (a || false))
    last true true = refl
    last true false = refl
    last false true = refl
    last false false = refl

-- it doesn't come after all
pub left_linked : (link : Link) (s : Standing) (old entered new : List Link) → IsLinked s old →
    AllByRecursion (λ c. cid_below c link.cid ≡ true) (ids_in s) → entered ≡ with_new link old → new ≡ without_link (place_of link) entered → IsLinked s new
left_linked link s old entered new linked below is_then is =
    subst (IsLinked s) (sym (is ∙ (ap (without_link (place_of link)) is_then ∙ left_again link old (no_link (place_of link) s old linked below)))) linked

-- ---- a connection goes

pub seen_facts : (o : Option Entry) (f : Facts) → option_map (λ e. e.facts) o ≡ Some f → (e : Entry) × (o ≡ Some e) × (e.facts ≡ f)
seen_facts None f h = absurd (none-some f h)
seen_facts (Some e) f h = (e, refl, same_Some e.facts f h)

pub gone_linked : (placed : Placed) (s new : Standing) (queue : Queue) (old links : List Link) (e : Entry) → IsTimed s queue → IsLinked s old →
    entry_with placed.cid.0 s ≡ Some e → e.facts.addr ≡ placed.addr → new ≡ gone placed.cid.0 s → links ≡ without_link placed old → IsLinked new links
gone_linked placed s new queue old links e timed linked found at is left =
    let told : TellsPlace placed s.entries = tells placed s.entries e (ids-rise s queue timed) found at in
    subst (λ t. IsLinked t links) (sym is)
    (subst (IsLinked (gone placed.cid.0 s)) (sym left)
    (subst (HaveSameLinks (without_link placed old)) (sym (links-gone placed s.entries told)) (same-without_link placed old (links_in s) linked)))

pub goes_from : (placed : Placed) (s : Standing) (queue : Queue) (links : List Link) (e : Entry) → IsTimed s queue → IsLinked s links →
    entry_with placed.cid.0 s ≡ Some e → e.facts.addr ≡ placed.addr → stands_at placed links ≡ true
goes_from placed s queue links e timed linked found at =
    linked (λ l. same_placed (place_of l) placed)
    ∙ stands-found placed s.entries e (tells placed s.entries e (ids-rise s queue timed) found at) found

-- ---- what they say

pub says : (s : Standing) (links : List Link) → IsLinked s links → SaySame links (links_in s)
says s links linked test addr = linked (λ l. same_address l.addr addr && test l)
