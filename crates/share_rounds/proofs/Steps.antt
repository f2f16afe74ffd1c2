-- The turns of loops that keep some addresses of a list, at most so many.
use Rattle.std.proofs.Common.{◌≡◌, ℕ, zero, suc, min, ◌+◌, ◌-◌, ◌<◌, ◌≤◌, Bool, cond, ◌&&◌, not, List, [], ◌∷◌, ◌++◌, length, get_or, take, drop, sym, ap, ◌∙◌, append_assoc, add-one, drop-cons, arith, inl, inr}
use Rattle.std.specs.List.{filter}
use Rattle.std.proofs.lemmas.Bool.{cases_Bool}
use Rattle.std.proofs.lemmas.List.{length_push, append-nil, drop-drop, length-append, length-take, map-append, take-append-drop}
use Rattle.std.proofs.lemmas.List.Elements.{filter-append}
use Rattle.std.proofs.Math.ListN.{drop_of_length-le}
use Rattle.std.proofs.Math.Seq.{take-nil}
use Rattle.net_base.specs.declared.address.Addr.{Addr}
use Rattle.net_base.specs.declared.peer.Peer.{Peer}
use Rattle.peer_book.specs.Book.{addresses_of}
use Rattle.root_groups.specs.Cleaned.{is_listed}
use Rattle.share_rounds.specs.Rounds.{taken_after}

-- what there is so far, and what is still to come
pub record IsKept (most : ℕ) (kept later all : List Addr) : Type 0 where
  pub fits : length kept ≤ most
  pub whole : all ≡ kept ++ take (most - length kept) later

-- the next one stays
stays : (most : ℕ) (kept later all : List Addr) (addr : Addr) → length kept < most → all ≡ kept ++ take (most - length kept) (addr ∷ later)
    → IsKept most (kept ++ addr ∷ []) later all
stays most kept later all addr room whole =
    let longer : length (kept ++ addr ∷ []) ≡ length kept + 1 = length_push kept addr in
    let left : most - length kept ≡ suc (most - length (kept ++ addr ∷ [])) = omega arith in
    record {
      fits = omega arith;
      whole = whole ∙ rw left (sym (append_assoc kept (addr ∷ []) (take (most - length (kept ++ addr ∷ [])) later)));
    }

kept_of_filter : (test : Addr → Bool) (most : ℕ) (addr : Addr) (rest kept new all : List Addr) → length kept < most → new ≡ cond (test addr) (kept ++ addr ∷ []) kept
    → all ≡ kept ++ take (most - length kept) (filter test (addr ∷ rest)) → IsKept most new (filter test rest) all
kept_of_filter test most addr rest kept new all room is whole =
    elim (cases_Bool (test addr)) [
      | inl passes ↦
          let same : new ≡ kept ++ addr ∷ [] = rw passes at is in
          let before : all ≡ kept ++ take (most - length kept) (addr ∷ filter test rest) = rw passes at whole in
          rw same (stays most kept (filter test rest) all addr room before)
      | inr fails ↦
          let same : new ≡ kept = rw fails at is in
          let before : all ≡ kept ++ take (most - length kept) (filter test rest) = rw fails at whole in
          rw same (record { fits = omega arith; whole = before })
    ]

-- one more peer is looked at
pub peer_looked_at : (test : Addr → Bool) (most : ℕ) (book : List Peer) (i : ℕ) (d : Peer) (kept new all : List Addr) → i < length book → length kept < most
    → new ≡ cond (test (get_or book i d).addr) (kept ++ (get_or book i d).addr ∷ []) kept
    → all ≡ kept ++ take (most - length kept) (filter test (addresses_of (drop i book))) → IsKept most new (filter test (addresses_of (drop (i + 1) book))) all
peer_looked_at test most book i d kept new all within room is whole =
    let next : drop i book ≡ get_or book i d ∷ drop (suc i) book = drop-cons book i d within in
    let before : all ≡ kept ++ take (most - length kept) (filter test ((get_or book i d).addr ∷ addresses_of (drop (suc i) book))) =
    whole ∙ ap (λ (peers : List Peer). kept ++ take (most - length kept) (filter test (addresses_of peers))) next in
    rw add-one (kept_of_filter test most (get_or book i d).addr (addresses_of (drop (suc i) book)) kept new all room is before)

-- the first of two lists, and then of the other
take_both : {X : Type 0} (k : ℕ) (xs ys : List X) → take k (xs ++ ys) ≡ take k xs ++ take (k - length xs) ys
take_both k [] ys = ap (λ (n : ℕ). take n ys) (whole k) ∙ ap (λ (l : List _). l ++ take (k - 0) ys) (sym (take-nil k))
  where
    whole : (n : ℕ) → n ≡ n - 0
    whole n = omega arith
take_both zero (x ∷ xs) ys = ap (λ (n : ℕ). take n ys) (none (suc (length xs)))
  where
    none : (n : ℕ) → 0 ≡ 0 - n
    none n = omega arith
take_both (suc k) (x ∷ xs) ys = ap (λ (l : List _). x ∷ l) (take_both k xs ys ∙ ap (λ (n : ℕ). take k xs ++ take n ys) (less k (length xs)))
  where
    less : (n m : ℕ) → n - m ≡ suc n - suc m
    less n m = omega arith

-- the peers that stand together are looked at
pub run_looked_at : (test : Addr → Bool) (most : ℕ) (book run : List Peer) (place : ℕ) (kept new all : List Addr) → length kept ≤ most
    → run ≡ take (length run) (drop place book) → new ≡ kept ++ take (most - length kept) (filter test (addresses_of run))
    → all ≡ kept ++ take (most - length kept) (filter test (addresses_of (drop place book))) → IsKept most new (filter test (addresses_of (drop (place + length run) book))) all
run_looked_at test most book run place kept new all fits front is whole =
    let k = most - length kept in
    let seen : List Addr = filter test (addresses_of run) in
    let later : List Peer = drop (place + length run) book in
    let behind : drop (length run) (drop place book) ≡ later = drop-drop (length run) place book in
    let both : drop place book ≡ run ++ later =
    sym (ap (λ (peers : List Peer). peers ++ later) front ∙ (ap (λ (peers : List Peer). take (length run) (drop place book) ++ peers) (sym behind) ∙ take-append-drop (length run) (drop place book))) in
    let told : filter test (addresses_of (drop place book)) ≡ seen ++ filter test (addresses_of later) =
    ap (λ (peers : List Peer). filter test (addresses_of peers)) both
    ∙ (ap (filter test) (map-append (λ (p : Peer). p.addr) run later) ∙ filter-append test (addresses_of run) (addresses_of later)) in
    let long : length new ≡ length kept + min k (length seen) = ap length is ∙ (length-append kept (take k seen) ∙ ap (λ (n : ℕ). length kept + n) (length-take k seen)) in
    let left : k - length seen ≡ most - length new = omega (arith, long, fits) in
    record {
      fits = omega (arith, long, fits);
      whole = whole
          ∙ (ap (λ (l : List Addr). kept ++ take k l) told
          ∙ (ap (λ (l : List Addr). kept ++ l) (take_both k seen (filter test (addresses_of later)))
          ∙ (sym (append_assoc kept (take k seen) (take (k - length seen) (filter test (addresses_of later))))
          ∙ (ap (λ (l : List Addr). l ++ take (k - length seen) (filter test (addresses_of later))) (sym is)
          ∙ ap (λ (n : ℕ). new ++ take n (filter test (addresses_of later))) left))));
    }

-- one more address is looked at
pub address_looked_at : (test : Addr → Bool) (most : ℕ) (addrs : List Addr) (i : ℕ) (d : Addr) (kept new all : List Addr) → i < length addrs → length kept < most
    → new ≡ cond (test (get_or addrs i d)) (kept ++ get_or addrs i d ∷ []) kept
    → all ≡ kept ++ take (most - length kept) (filter test (drop i addrs)) → IsKept most new (filter test (drop (i + 1) addrs)) all
address_looked_at test most addrs i d kept new all within room is whole =
    let next : drop i addrs ≡ get_or addrs i d ∷ drop (suc i) addrs = drop-cons addrs i d within in
    let before : all ≡ kept ++ take (most - length kept) (filter test (get_or addrs i d ∷ drop (suc i) addrs)) =
    whole ∙ ap (λ (rest : List Addr). kept ++ take (most - length kept) (filter test rest)) next in
    rw add-one (kept_of_filter test most (get_or addrs i d) (drop (suc i) addrs) kept new all room is before)

-- one more told address is looked at
pub told_looked_at : (may : Addr → Bool) (most : ℕ) (told : List Addr) (i : ℕ) (d : Addr) (kept new all : List Addr) → i < length told → length kept < most
    → new ≡ cond (may (get_or told i d) && not (is_listed (get_or told i d) kept)) (kept ++ get_or told i d ∷ []) kept
    → all ≡ kept ++ take (most - length kept) (taken_after kept may (drop i told)) → IsKept most new (taken_after new may (drop (i + 1) told)) all
unfolding taken_after
told_looked_at may most told i d kept new all within room is whole =
    let addr = get_or told i d in
    let rest = drop (suc i) told in
    let next : drop i told ≡ addr ∷ rest = drop-cons told i d within in
    let before : all ≡ kept ++ take (most - length kept) (taken_after kept may (addr ∷ rest)) =
    whole ∙ ap (λ (addrs : List Addr). kept ++ take (most - length kept) (taken_after kept may addrs)) next in
    elim (cases_Bool (may addr && not (is_listed addr kept))) [
      | inl passes ↦
          let same : new ≡ kept ++ addr ∷ [] = rw passes at is in
          let on : all ≡ kept ++ take (most - length kept) (addr ∷ taken_after (kept ++ addr ∷ []) may rest) = rw passes at before in
          rw (same, add-one) (stays most kept (taken_after (kept ++ addr ∷ []) may rest) all addr room on)
      | inr fails ↦
          let same : new ≡ kept = rw fails at is in
          let on : all ≡ kept ++ take (most - length kept) (taken_after kept may rest) = rw fails at before in
          rw (same, add-one) (record { fits = omega arith; whole = on })
    ]

-- nothing is kept yet
pub none_kept : (most : ℕ) (later : List Addr) → IsKept most [] later (take most later)
none_kept most later =
    let same : most ≡ most - 0 = omega arith in
    record { fits = omega arith; whole = ap (λ (n : ℕ). take n later) same }

-- as many are kept as there may be
pub most_kept : (most : ℕ) (kept later all : List Addr) → most ≤ length kept → all ≡ kept ++ take (most - length kept) later → kept ≡ all
most_kept most kept later all full whole =
    let none : most - length kept ≡ 0 = omega arith in
    sym (whole ∙ rw none (append-nil kept))

-- all were looked at
pub all_kept : (may : Addr → Bool) (most : ℕ) (told : List Addr) (i : ℕ) (kept all : List Addr) → length told ≤ i
    → all ≡ kept ++ take (most - length kept) (taken_after kept may (drop i told)) → kept ≡ all
unfolding taken_after
all_kept may most told i kept all past whole = sym (whole ∙ rw (drop_of_length-le told past) (ap (λ (l : List Addr). kept ++ l) (take-nil (most - length kept)) ∙ append-nil kept))

pub all_peers_kept : (test : Addr → Bool) (most : ℕ) (book : List Peer) (i : ℕ) (kept all : List Addr) → length book ≤ i
    → all ≡ kept ++ take (most - length kept) (filter test (addresses_of (drop i book))) → kept ≡ all
all_peers_kept test most book i kept all past whole = sym (whole ∙ rw (drop_of_length-le book past) (ap (λ (l : List Addr). kept ++ l) (take-nil (most - length kept)) ∙ append-nil kept))

pub all_addresses_kept : (test : Addr → Bool) (most : ℕ) (addrs : List Addr) (i : ℕ) (kept all : List Addr) → length addrs ≤ i
    → all ≡ kept ++ take (most - length kept) (filter test (drop i addrs)) → kept ≡ all
all_addresses_kept test most addrs i kept all past whole = sym (whole ∙ rw (drop_of_length-le addrs past) (ap (λ (l : List Addr). kept ++ l) (take-nil (most - length kept)) ∙ append-nil kept))
