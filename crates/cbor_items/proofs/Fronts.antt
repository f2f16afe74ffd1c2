-- What readers above stand on: an item is a front of the bytes, and is found again whatever follows it.
use Rattle.std.proofs.Common.{◌≡◌, ◌≢◌, ℕ, ◌≤◌, ◌<◌, true, List, [], ◌++◌, length, take, refl, sym, ap, subst, ◌∙◌, arith}
use Rattle.std.proofs.lemmas.Bool.{eqb-true, eq-eqb}
use Rattle.std.proofs.Math.Seq.{take-length}
use Rattle.std.proofs.lemmas.List.{append-nil, length-append, length-take, take_at, take-append-le}
use Rattle.cbor_items.specs.declared.scan.Scan.{Scan}
use Rattle.cbor_items.specs.declared.scan.Scan.TheVariants.{Whole, More, Bad, Deep}
use Rattle.cbor_items.specs.Item.{IsItem, level_limit}
use Rattle.cbor_items.specs.Scan.{scan_of, is_all_of, is_one_item}
use Rattle.cbor_items.specs.Answer.{IsAnswer, IsOpenBefore}
use Rattle.cbor_items.proofs.Grammar.{item_is_plain}
use Rattle.cbor_items.proofs.Meaning.{answer_means, only_answer}

pub scan_found : (bytes : List ℕ) (n : ℕ) → scan_of bytes ≡ Whole n → (n ≤ length bytes) × IsItem level_limit (take n bytes)
scan_found bytes n e = subst (IsAnswer bytes) e (answer_means bytes)

pub scan_again : (item rest : List ℕ) → IsItem level_limit item → scan_of (item ++ rest) ≡ Whole (length item)
scan_again item rest is =
    let whole : IsAnswer (item ++ rest) (Whole (length item)) =
    (omega (arith, length-append item rest), subst (IsItem level_limit) (sym (take_at item rest (length item) refl)) is) in
    sym (only_answer (item ++ rest) (Whole (length item)) whole)

-- ---- bytes that are one item

is_all : (bytes : List ℕ) (answer : Scan) → is_all_of bytes answer ≡ true → answer ≡ Whole (length bytes)
is_all bytes (Whole n) e = ap Whole (eqb-true _ _ e)
is_all bytes More e = absurd cc
is_all bytes Bad e = absurd cc
is_all bytes Deep e = absurd cc

pub one_is_item : (bytes : List ℕ) → is_one_item bytes ≡ true → IsItem level_limit bytes
one_is_item bytes e = subst (IsItem level_limit) (take-length bytes) (scan_found bytes (length bytes) (is_all bytes (scan_of bytes) e)).1

pub item_is_one : (bytes : List ℕ) → IsItem level_limit bytes → is_one_item bytes ≡ true
item_is_one bytes item =
    let scanned : scan_of bytes ≡ Whole (length bytes) = ap scan_of (sym (append-nil bytes)) ∙ scan_again bytes [] item in
    rw scanned (eq-eqb (length bytes) (length bytes) refl)

-- ---- items are not empty

pub item_is_not_empty : (depth : ℕ) (item : List ℕ) → IsItem depth item → 0 < length item
item_is_not_empty depth item is = let start = item_is_plain depth item is in omega (arith, ap length start.joined)

pub scan_takes : (bytes : List ℕ) (n : ℕ) → scan_of bytes ≡ Whole n → 0 < n
scan_takes bytes n e =
    let f = scan_found bytes n e in
    omega (arith, item_is_not_empty level_limit (take n bytes) f.1, length-take n bytes)

-- every answer but More stays, whatever follows
open_stays : (count : ℕ) (bytes after : List ℕ) → IsOpenBefore count bytes → (take count (bytes ++ after) ≡ take count bytes) × IsOpenBefore count (bytes ++ after)
open_stays count bytes after first = (
  take-append-le count bytes after first.within,
  record {
    within = omega (arith, first.within, length-append bytes after);
    shorter = λ n below. let same : take n (bytes ++ after) ≡ take n bytes = take-append-le n bytes after (omega (arith, first.within)) in rw same (first.shorter n below);
  },
)

means_still : (bytes after : List ℕ) (answer : Scan) → answer ≢ More → IsAnswer bytes answer → IsAnswer (bytes ++ after) answer
means_still bytes after (Whole n) known (within, is) =
    (omega (arith, within, length-append bytes after), rw (take-append-le n bytes after within) is)
means_still bytes after More known is = absurd (known refl)
means_still bytes after Bad known is =
    let o = open_stays is.count bytes after is.first in
    record { count = is.count; first = o.1; none = rw o.0 is.none }
means_still bytes after Deep known is =
    let o = open_stays is.count bytes after is.first in
    record { count = is.count; first = o.1; none = rw o.0 is.none; depth = is.depth; some = rw o.0 is.some }

pub scan_stays : (bytes after : List ℕ) (answer : Scan) → answer ≢ More → scan_of bytes ≡ answer → scan_of (bytes ++ after) ≡ answer
scan_stays bytes after answer known e =
    sym (only_answer (bytes ++ after) answer (means_still bytes after answer known (subst (IsAnswer bytes) e (answer_means bytes))))
