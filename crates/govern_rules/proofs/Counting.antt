-- Peers that have a link with a mark are counted by a look through the links.
use Rattle.std.proofs.Common.{◌≡◌, ℕ, ◌+◌, Bool, true, false, cond, ◌&&◌, ◌||◌, List, [], ◌∷◌, ◌++◌, length, drop, get_or, ◌<◌, ◌≤◌, Option, Some, None, refl, sym, ap, ◌∙◌, inl, inr, arith}
use Rattle.std.specs.List.{IsDistinct, filter, count_by, list_any}
use Rattle.std.specs.Option.{option_to_list}
use Rattle.std.proofs.lemmas.Bool.{cases_Bool, and_parts, false_from_ne_true, true≢false}
use Rattle.std.proofs.lemmas.List.{drop_more, length-append}
use Rattle.std.proofs.lemmas.List.Elements.{filter-append}
use Rattle.std.proofs.lemmas.List.Sums.{count_by-le-length, sum_by-cons, length-filter}
use Rattle.net_base.specs.Address.{same_address}
use Rattle.net_base.specs.declared.address.Addr.{Addr}
use Rattle.net_base.specs.declared.peer.Peer.{Peer}
use Rattle.net_base.proofs.AddressOrder.{same_address-is}
use Rattle.peer_book.specs.Book.{is_of, has_address, peer_at, addresses_of}
use Rattle.root_groups.proofs.Listed.{same_address-turn}
use Rattle.govern_rules.specs.ClassRules.{count_of}
use Rattle.govern_rules.specs.Lent.{is_counted}
use Rattle.govern_rules.specs.Links.{some_link}
use Rattle.govern_rules.specs.Marks.{has_mark, counts, is_last_marked, is_class, is_class_at}
use Rattle.govern_rules.specs.SortedLinks.{links_of}
use Rattle.govern_rules.specs.declared.link.Link.{Link}
use Rattle.govern_rules.specs.declared.mark.Mark.{Mark}
use Rattle.govern_rules.proofs.ByAddress.{own_say}
use Rattle.govern_rules.proofs.FoundMembers.{filter-twice, the_peer}

plus_none : (n : ℕ) → n ≡ 0 + n
plus_none n = omega arith

-- ---- counts

pub count-same : (a b : Peer → Bool) → ((p : Peer) → a p ≡ b p) → (peers : List Peer) → count_by a peers ≡ count_by b peers
count-same a b same peers = λ i. count_by (λ p. same p i) peers

-- whoever passes a test passes one of two others
count-split : (a b c : Peer → Bool) → ((p : Peer) → cond {A = ℕ} (a p) 1 0 ≡ cond (b p) 1 0 + cond (c p) 1 0) → (peers : List Peer) →
    count_by a peers ≡ count_by b peers + count_by c peers
count-split a b c each [] = refl
count-split a b c each (p ∷ peers) =
    omega (
      arith,
      each p,
      count-split a b c each peers,
      sum_by-cons (λ x. cond {A = ℕ} (a x) 1 0) p peers,
      sum_by-cons (λ x. cond {A = ℕ} (b x) 1 0) p peers,
      sum_by-cons (λ x. cond {A = ℕ} (c x) 1 0) p peers,
    )

pub count-nobody : (big : Bool) (peers : List Peer) → count_by (λ p. is_of big p && false) peers ≡ 0
count-nobody big [] = refl
count-nobody big (p ∷ peers) =
    let first : cond {A = ℕ} (is_of big p && false) 1 0 ≡ 0 = nothing (is_of big p) in
    omega (arith, first, count-nobody big peers, sum_by-cons (λ x. cond {A = ℕ} (is_of big x && false) 1 0) p peers)
  where
    nothing : (b : Bool) → cond {A = ℕ} (b && false) 1 0 ≡ 0
    nothing true = refl
    nothing false = refl

pub counted-more : (test : Peer → Bool) (xs ys : List Peer) → count_by test (xs ++ ys) ≡ count_by test xs + count_by test ys
counted-more test xs ys =
    omega (
      arith,
      ap length (filter-append test xs ys),
      length-append (filter test xs) (filter test ys),
      length-filter test (xs ++ ys),
      length-filter test xs,
      length-filter test ys,
    )

-- one peer at most counts once at most
pub counted-once : (test : Peer → Bool) (o : Option Peer) → count_by test (option_to_list o) ≤ 1
counted-once test None = omega (arith, count_by-le-length test [])
counted-once test (Some p) = omega (arith, count_by-le-length test (p ∷ []))

-- ---- the peer of an address

at_address : (big : Bool) (addr : Addr) (peers : List Peer) → IsDistinct same_address (addresses_of peers) →
    count_by (λ p. has_address addr p && is_of big p) peers ≡ cond (is_class_at big addr peers) 1 0
at_address big addr peers distinct =
    sym (length-filter (λ p. has_address addr p && is_of big p) peers)
    ∙ (ap length (sym (filter-twice (is_of big) (has_address addr) peers) ∙ ap (filter (is_of big)) (the_peer addr peers distinct))
    ∙ by_option (peer_at addr peers))
  where
    by_option : (o : Option Peer) → length (filter (is_of big) (option_to_list o)) ≡ cond (is_class big o) 1 0
    by_option None = refl
    by_option (Some p) = elim (cases_Bool (is_of big p)) [ inl h ↦ rw h refl | inr h ↦ rw h refl ]

-- ---- one link more

first-link : (big : Bool) (mark : Mark) (l : Link) (links : List Link) (peers : List Peer) → IsDistinct same_address (addresses_of peers) →
    count_of big (some_link (has_mark mark) (l ∷ links)) peers
    ≡ cond (is_last_marked mark l links && is_class_at big l.addr peers) 1 0 + count_of big (some_link (has_mark mark) links) peers
first-link big mark l links peers distinct = elim (cases_Bool (has_mark mark l)) [
  | inr unmarked ↦
      rw unmarked (count-same _ _ (λ p. ap (λ b. is_of big p && b) (skipped (same_address l.addr p.addr) false (some_link (has_mark mark) links p.addr) (no_both (same_address l.addr p.addr)))) peers ∙ plus_none _)
  | inl marked ↦ elim (cases_Bool (some_link (has_mark mark) links l.addr)) [
    | inl again ↦
        let later : list_any (has_mark mark) (links_of l.addr links) ≡ true = own_say (has_mark mark) l.addr links ∙ again in
        rw (marked, later) (count-same _ _ (λ p. ap (λ b. is_of big p && b) (covered p.addr again)) peers ∙ plus_none _)
    | inr last ↦
        let none : list_any (has_mark mark) (links_of l.addr links) ≡ false = own_say (has_mark mark) l.addr links ∙ last in
        rw (marked, none) (count-split _ (λ p. has_address l.addr p && is_of big p) _ (λ p. either p last) peers
        ∙ ap (λ n. n + count_of big (some_link (has_mark mark) links) peers) (at_address big l.addr peers distinct))
  ]
]
  where
    no_both : (b : Bool) → (b && false) ≡ false
    no_both true = refl
    no_both false = refl

    skipped : (a b c : Bool) → (a && b) ≡ false → ((a && b) || c) ≡ c
    skipped a b c h = ap (λ x. x || c) h

    covered : (addr : Addr) → some_link (has_mark mark) links l.addr ≡ true →
        ((same_address l.addr addr && true) || some_link (has_mark mark) links addr) ≡ some_link (has_mark mark) links addr
    covered addr again = elim (cases_Bool (same_address l.addr addr)) [
      | inl same ↦
          let here : some_link (has_mark mark) links addr ≡ true = ap (some_link (has_mark mark) links) (sym (same_address-is l.addr addr same)) ∙ again in
          rw (same, here) refl
      | inr other ↦ rw other refl
    ]

    one : (b : Bool) → cond {A = ℕ} (b && true) 1 0 ≡ cond b 1 0 + cond (b && false) 1 0
    one true = refl
    one false = refl

    either : (p : Peer) → some_link (has_mark mark) links l.addr ≡ false →
        cond {A = ℕ} (is_of big p && ((same_address l.addr p.addr && true) || some_link (has_mark mark) links p.addr)) 1 0
        ≡ cond (has_address l.addr p && is_of big p) 1 0 + cond (is_of big p && some_link (has_mark mark) links p.addr) 1 0
    either p last = elim (cases_Bool (same_address l.addr p.addr)) [
      | inl same ↦
          let here : some_link (has_mark mark) links p.addr ≡ false = ap (some_link (has_mark mark) links) (sym (same_address-is l.addr p.addr same)) ∙ last in
          let back : same_address p.addr l.addr ≡ true = same_address-turn p.addr l.addr ∙ same in
          rw (same, here, back) (one (is_of big p))
      | inr other ↦
          let back : same_address p.addr l.addr ≡ false = same_address-turn p.addr l.addr ∙ other in
          rw (other, back) (plus_none _)
    ]

pub one-link : (big : Bool) (mark : Mark) (l : Link) (links : List Link) (peers : List Peer) → IsDistinct same_address (addresses_of peers) → (b : Bool) →
    (is_last_marked mark l links && is_class_at big l.addr peers) ≡ b →
    count_of big (some_link (has_mark mark) (l ∷ links)) peers ≡ cond b 1 0 + count_of big (some_link (has_mark mark) links) peers
one-link big mark l links peers distinct b e =
    first-link big mark l links peers distinct ∙ ap (λ x. cond x 1 0 + count_of big (some_link (has_mark mark) links) peers) e

pub no-link : (big : Bool) (mark : Mark) (peers : List Peer) → count_of big (some_link (has_mark mark) []) peers ≡ 0
no-link big mark peers = count-nobody big peers

-- ---- whoever counts by a mark looks among those that count

any-filter : (keep test : Link → Bool) → ((l : Link) → test l ≡ true → keep l ≡ true) → (links : List Link) →
    list_any test (filter keep links) ≡ list_any test links
any-filter keep test passes [] = refl
any-filter keep test passes (l ∷ links) = elim (cases_Bool (keep l)) [
  | inl kept ↦ rw kept (ap (λ b. test l || b) (any-filter keep test passes links))
  | inr gone ↦
      let fails : test l ≡ false = false_from_ne_true (test l) (λ h. true≢false (sym (passes l h) ∙ gone)) in
      rw (gone, fails) (any-filter keep test passes links)
]

-- lists that have the same ones that count say the same of a mark by which one counts
pub same_marked : (test : Link → Bool) → ((l : Link) → test l ≡ true → is_counted l ≡ true) → (all counted : List Link) →
    filter is_counted counted ≡ filter is_counted all → (addr : Addr) → some_link test counted addr ≡ some_link test all addr
same_marked test counts all counted same addr =
    let at : Link → Bool = λ l. same_address l.addr addr && test l in
    let passes : (l : Link) → at l ≡ true → is_counted l ≡ true = λ l h. counts l (and_parts (same_address l.addr addr) (test l) h).1 in
    sym (any-filter is_counted at passes counted) ∙ (ap (list_any at) same ∙ any-filter is_counted at passes all)

pub pending-counts : (l : Link) → l.pending ≡ true → is_counted l ≡ true
pending-counts l h = rw h refl

pub owes2-counts : (l : Link) → l.owes2 ≡ true → is_counted l ≡ true
owes2-counts l h = rw h (or_left_true l.pending l.owes10)
  where
    or_left_true : (a b : Bool) → (a || (true || b)) ≡ true
    or_left_true true b = refl
    or_left_true false b = refl

pub owes10-counts : (l : Link) → l.owes10 ≡ true → is_counted l ≡ true
owes10-counts l h = rw h (last_true l.pending l.owes2)
  where
    last_true : (a b : Bool) → (a || (b || true)) ≡ true
    last_true true b = refl
    last_true false true = refl
    last_true false false = refl

-- ---- the link at a place, and those behind it

pub count-next : (big : Bool) (mark : Mark) (links : List Link) (place : ℕ) (peers : List Peer) → IsDistinct same_address (addresses_of peers) →
    place < length links → (b : Bool) → ((d : Link) → counts mark big (get_or links place d) (drop (place + 1) links) peers ≡ b) →
    count_of big (some_link (has_mark mark) (drop place links)) peers ≡ cond b 1 0 + count_of big (some_link (has_mark mark) (drop (place + 1) links)) peers
count-next big mark [] place peers distinct inside b each = absurd (omega (arith, inside))
count-next big mark (l ∷ links) place peers distinct inside b each =
    ap (λ ls. count_of big (some_link (has_mark mark) ls) peers) (drop_more (l ∷ links) place l inside)
    ∙ one-link big mark (get_or (l ∷ links) place l) (drop (place + 1) (l ∷ links)) peers distinct b (each l)
