-- The answers of the scan have their meaning, and no other answer has it.
use Rattle.std.proofs.Common.{◌≡◌, ◌≢◌, ℕ, zero, suc, ◌+◌, ◌-◌, ◌≤◌, ◌<◌, List, [], ◌++◌, length, take, drop, Result, Ok, Err, refl, sym, ap, subst, ◌∙◌, append_assoc, arith, inl, inr}
use Rattle.std.proofs.lemmas.Bool.{cases_lt}
use Rattle.std.proofs.lemmas.List.{append-nil, length-append, length-take, length-drop, take-append-drop, take-take, take_at, take_all, nil_from_length}
use Rattle.cbor_items.specs.declared.stop.Stop.{Stop}
use Rattle.cbor_items.specs.declared.stop.Stop.TheVariants.{More, Bad, Deep}
use Rattle.cbor_items.specs.declared.scan.Scan.{Scan}
use Rattle.cbor_items.specs.declared.scan.Scan.TheVariants as scan
use Rattle.cbor_items.specs.Item.{IsItem, level_limit, Begins}
use Rattle.cbor_items.specs.Scan.{skip_item, scan_result, scan_of}
use Rattle.cbor_items.specs.Answer.{IsBegun, IsOpenBefore, IsBad, IsTooDeep, IsAnswer}
use Rattle.cbor_items.proofs.Skips.{AreBytes-nil}
use Rattle.cbor_items.proofs.Grammar.{skips_item}
use Rattle.cbor_items.proofs.Levels.{deepens_item}

ok_is : (x y : List ℕ) → ◌≡◌ {A = Result (List ℕ) Stop} (Ok x) (Ok y) → x ≡ y
ok_is x y e = cc

bad_decides : Bad ≢ More
bad_decides same = absurd cc

deep_decides : Deep ≢ More
deep_decides same = absurd cc

-- ---- more levels

pub wider_by : (k depth more : ℕ) (x : List ℕ) → more ≡ depth + k → IsItem depth x → IsItem more x
wider_by zero depth more x e is = let same : depth ≡ more = omega arith in subst (λ (d : ℕ). IsItem d x) same is
wider_by (suc k) depth more x e is = wider_by k (suc depth) more x (omega arith) ((deepens_item depth).wider x is)

bad_by : (k depth more : ℕ) (bytes : List ℕ) → more ≡ depth + k → skip_item depth bytes ≡ Err Bad → skip_item more bytes ≡ Err Bad
bad_by zero depth more bytes e is = let same : depth ≡ more = omega arith in subst (λ (d : ℕ). skip_item d bytes ≡ Err Bad) same is
bad_by (suc k) depth more bytes e is = bad_by k (suc depth) more bytes (omega arith) ((deepens_item depth).bad bytes is)

-- an item is passed over to its end
pub item_whole : (depth : ℕ) (x : List ℕ) → IsItem depth x → skip_item depth x ≡ Ok []
item_whole depth x is = ap (skip_item depth) (sym (append-nil x)) ∙ (skips_item depth).again x [] is

-- no item is a proper prefix of another, whatever their depths
pub prefix_is_whole : (d e : ℕ) (x y : List ℕ) → IsItem d x → IsItem e (x ++ y) → y ≡ []
prefix_is_whole d e x y short long =
    let m = d + e in
    let one : skip_item m (x ++ y) ≡ Ok y = (skips_item m).again x y (wider_by e d m x refl short) in
    let two : skip_item m (x ++ y) ≡ Ok [] = item_whole m (x ++ y) (wider_by d e m (x ++ y) (omega arith) long) in
    ok_is y [] (sym one ∙ two)

-- ---- what a stop means

-- where the scan stops for good, no item begins
stop_none : (depth : ℕ) (bytes : List ℕ) (stop : Stop) → stop ≢ More → skip_item depth bytes ≡ Err stop → Begins (IsItem depth) bytes → ⊥
stop_none depth bytes stop known e b =
    let one : skip_item depth (bytes ++ b.missing) ≡ Err stop = (skips_item depth).stays bytes b.missing stop known e in
    let two : skip_item depth (bytes ++ b.missing) ≡ Ok [] = item_whole depth (bytes ++ b.missing) b.is in
    absurd cc

bad_none : (depth : ℕ) (bytes : List ℕ) → skip_item depth bytes ≡ Err Bad → (other : ℕ) → Begins (IsItem other) bytes → ⊥
bad_none depth bytes e other b =
    let m = depth + other in
    stop_none m bytes Bad bad_decides (bad_by other depth m bytes refl e)
    (record { missing = b.missing; are_bytes = b.are_bytes; is = wider_by depth other m (bytes ++ b.missing) (omega arith) b.is })

more_begun : (depth : ℕ) (bytes : List ℕ) → skip_item depth bytes ≡ Err More → IsBegun depth bytes
more_begun depth bytes e =
    let b = (skips_item depth).more bytes e in
    record {
      missing = b.missing;
      are_bytes = b.are_bytes;
      is_item = b.is;
      some = λ none.
          let whole : IsItem depth bytes = subst (IsItem depth) (ap (λ (x : List ℕ). bytes ++ x) none ∙ append-nil bytes) b.is in
          let read = item_whole depth bytes whole in
          absurd cc;
    }

-- ---- the first front that decides

pub record IsFirstStop (depth : ℕ) (bytes : List ℕ) (stop : Stop) : Type 0 where
  pub count : ℕ
  pub within : count ≤ length bytes
  pub stops : skip_item depth (take count bytes) ≡ Err stop
  pub shorter : (n : ℕ) → n < count → skip_item depth (take n bytes) ≡ Err More

module _ (depth : ℕ) (bytes : List ℕ) (stop : Stop) (known : stop ≢ More) (stops : skip_item depth bytes ≡ Err stop) where
  split : (n : ℕ) → take n bytes ++ drop n bytes ≡ bytes
  split n = take-append-drop n bytes

  -- a front that stops for good stops as the whole does
  front_stops : (n : ℕ) (other : Stop) → other ≢ More → skip_item depth (take n bytes) ≡ Err other → other ≡ stop
  front_stops n other known' e =
      let one : skip_item depth bytes ≡ Err other = ap (skip_item depth) (sym (split n)) ∙ (skips_item depth).stays (take n bytes) (drop n bytes) other known' e in
      cc

  front_is_open : (n : ℕ) (rest : List ℕ) → skip_item depth (take n bytes) ≡ Ok rest → ⊥
  front_is_open n rest e =
      let f = (skips_item depth).found (take n bytes) rest e in
      let regrouped : bytes ≡ f.front ++ (rest ++ drop n bytes) = sym (split n) ∙ ap (λ (x : List ℕ). x ++ drop n bytes) f.joined ∙ append_assoc f.front rest (drop n bytes) in
      let one : skip_item depth bytes ≡ Ok (rest ++ drop n bytes) = ap (skip_item depth) regrouped ∙ (skips_item depth).again f.front (rest ++ drop n bytes) f.is in
      absurd cc

  Search : ℕ → Type 0
  Search n = n ≤ length bytes → ((k : ℕ) → k < n → skip_item depth (take k bytes) ≡ Err More) → IsFirstStop depth bytes stop

  -- one step of the search, by what the scan says of so many bytes
  search_step : (n : ℕ) (r : Result (List ℕ) Stop) → (n < length bytes → Search (n + 1)) → skip_item depth (take n bytes) ≡ r → Search n
  unfolding Search
  search_step n (Ok rest) next e within shorter = absurd (front_is_open n rest e)
  search_step n (Err More) next e within shorter =
      elim (cases_lt n (length bytes)) [
        | inl lt ↦ next lt (omega arith) (λ k below. elim (cases_lt k n) [
          | inl less ↦ shorter k less
          | inr same ↦ let is : k ≡ n = omega arith in rw is e
        ])
        | inr all ↦ let whole : skip_item depth bytes ≡ Err More = ap (skip_item depth) (sym (take_all n bytes all)) ∙ e in absurd (known cc)
      ]
  search_step n (Err Bad) next e within shorter =
      let is : Bad ≡ stop = front_stops n Bad bad_decides e in
      record { count = n; within = within; stops = e ∙ ap (λ (s : Stop). Err s) is; shorter = shorter }
  search_step n (Err Deep) next e within shorter =
      let is : Deep ≡ stop = front_stops n Deep deep_decides e in
      record { count = n; within = within; stops = e ∙ ap (λ (s : Stop). Err s) is; shorter = shorter }

  search_from : (left n : ℕ) → n + left ≡ length bytes → Search n
  search_from zero n e = search_step n (skip_item depth (take n bytes)) (λ lt. absurd (omega arith)) refl
  search_from (suc left) n e = search_step n (skip_item depth (take n bytes)) (λ lt. search_from left (n + 1) (omega arith)) refl

  pub first_stop : IsFirstStop depth bytes stop
  unfolding Search
  first_stop = search_from (length bytes) 0 (omega arith) (omega arith) (λ k none. absurd (omega arith))

-- a front of the first bytes is one of the bytes
front_of_take : (n : ℕ) (bytes front rest : List ℕ) → take n bytes ≡ front ++ rest → (take (length front) bytes ≡ front) × (length front + length rest ≤ n)
front_of_take n bytes front rest e =
    let fits : length front + length rest ≤ n = omega (arith, ap length e, length-append front rest, length-take n bytes) in
    (sym (take-take (length front) n bytes (omega arith)) ∙ ap (take (length front)) e ∙ take_at front rest (length front) refl, fits)

-- ---- every answer has its meaning

-- the bytes that are too deep are the first of which that is known
deep_front : (bytes : List ℕ) (count : ℕ) → IsOpenBefore count bytes → skip_item level_limit (take count bytes) ≡ Err Deep → Begins (IsItem (suc level_limit)) (take count bytes)
deep_front bytes count first e =
    let t = (deepens_item level_limit).deep (take count bytes) e in
    let f = front_of_take count bytes t.front t.rest t.joined in
    elim (cases_lt (length t.front) count) [
      | inl less ↦
          let b = subst (IsBegun level_limit) f.0 (first.shorter (length t.front) less) in
          absurd (stop_none level_limit t.front Deep deep_decides t.is_deep (record { missing = b.missing; are_bytes = b.are_bytes; is = b.is_item }))
      | inr all ↦
          let none : t.rest ≡ [] = nil_from_length t.rest (omega (arith, f.1)) in
          let same : t.front ≡ take count bytes = sym (append-nil t.front) ∙ ap (λ (x : List ℕ). t.front ++ x) (sym none) ∙ sym t.joined in
          subst (Begins (IsItem (suc level_limit))) same t.begun
    ]

open_before : (bytes : List ℕ) (stop : Stop) (first : IsFirstStop level_limit bytes stop) → IsOpenBefore first.count bytes
open_before bytes stop first = record { within = first.within; shorter = λ n below. more_begun level_limit (take n bytes) (first.shorter n below) }

answer_of : (bytes : List ℕ) (r : Result (List ℕ) Stop) → skip_item level_limit bytes ≡ r → IsAnswer bytes (scan_result bytes r)
answer_of bytes (Ok rest) e =
    let f = (skips_item level_limit).found bytes rest e in
    let len : length bytes - length rest ≡ length f.front = omega (arith, ap length f.joined, length-append f.front rest) in
    let front : take (length f.front) bytes ≡ f.front = ap (take (length f.front)) f.joined ∙ take_at f.front rest (length f.front) refl in
    rw (len, front) (omega (arith, ap length f.joined, length-append f.front rest), f.is)
answer_of bytes (Err More) e = more_begun level_limit bytes e
answer_of bytes (Err Bad) e =
    let first = first_stop level_limit bytes Bad bad_decides e in
    record { count = first.count; first = open_before bytes Bad first; none = bad_none level_limit (take first.count bytes) first.stops }
answer_of bytes (Err Deep) e =
    let first = first_stop level_limit bytes Deep deep_decides e in
    record {
      count = first.count;
      first = open_before bytes Deep first;
      none = stop_none level_limit (take first.count bytes) Deep deep_decides first.stops;
      depth = suc level_limit;
      some = deep_front bytes first.count (open_before bytes Deep first) first.stops;
    }

pub answer_means : (bytes : List ℕ) → IsAnswer bytes (scan_of bytes)
unfolding scan_of
answer_means bytes = answer_of bytes (skip_item level_limit bytes) refl

-- ---- and no other answer has it

-- a shorter item than what is open so far
no_shorter_item : (bytes : List ℕ) (count : ℕ) → IsOpenBefore count bytes → (rest : List ℕ) → skip_item level_limit (take count bytes) ≡ Ok rest
    → Begins (IsItem level_limit) (take count bytes)
no_shorter_item bytes count first rest e =
    let f = (skips_item level_limit).found (take count bytes) rest e in
    let t = front_of_take count bytes f.front rest f.joined in
    elim (cases_lt (length f.front) count) [
      | inl less ↦
          let b = first.shorter (length f.front) less in
          let longer : IsItem level_limit (f.front ++ b.missing) = subst (λ (x : List ℕ). IsItem level_limit (x ++ b.missing)) t.0 b.is_item in
          absurd (b.some (prefix_is_whole level_limit level_limit f.front b.missing f.is longer))
      | inr all ↦
          let none : rest ≡ [] = nil_from_length rest (omega (arith, t.1)) in
          let same : f.front ≡ take count bytes = sym (append-nil f.front) ∙ ap (λ (x : List ℕ). f.front ++ x) (sym none) ∙ sym f.joined in
          record { missing = []; are_bytes = AreBytes-nil; is = subst (IsItem level_limit) (same ∙ sym (append-nil (take count bytes))) f.is }
    ]

front_decides : (bytes : List ℕ) (count : ℕ) (stop : Stop) → stop ≢ More → skip_item level_limit (take count bytes) ≡ Err stop → skip_item level_limit bytes ≡ Err stop
front_decides bytes count stop known e =
    ap (skip_item level_limit) (sym (take-append-drop count bytes)) ∙ (skips_item level_limit).stays (take count bytes) (drop count bytes) stop known e

begun_not_read : (bytes : List ℕ) (r : Result (List ℕ) Stop) → IsBegun level_limit bytes → skip_item level_limit bytes ≡ r → r ≡ Err More
begun_not_read bytes (Ok rest) b e =
    let f = (skips_item level_limit).found bytes rest e in
    let regrouped : bytes ++ b.missing ≡ f.front ++ (rest ++ b.missing) = ap (λ (x : List ℕ). x ++ b.missing) f.joined ∙ append_assoc f.front rest b.missing in
    let none : rest ++ b.missing ≡ [] = prefix_is_whole level_limit level_limit f.front (rest ++ b.missing) f.is (subst (IsItem level_limit) regrouped b.is_item) in
    let len : length b.missing ≡ 0 = omega (arith, ap length none, length-append rest b.missing) in
    absurd (b.some (nil_from_length b.missing len))
begun_not_read bytes (Err More) b e = refl
begun_not_read bytes (Err Bad) b e = absurd (stop_none level_limit bytes Bad bad_decides e (record { missing = b.missing; are_bytes = b.are_bytes; is = b.is_item }))
begun_not_read bytes (Err Deep) b e = absurd (stop_none level_limit bytes Deep deep_decides e (record { missing = b.missing; are_bytes = b.are_bytes; is = b.is_item }))

bad_is_read : (bytes : List ℕ) (b : IsBad bytes) (r : Result (List ℕ) Stop) → skip_item level_limit (take b.count bytes) ≡ r → r ≡ Err Bad
bad_is_read bytes b (Ok rest) e = absurd (b.none level_limit (no_shorter_item bytes b.count b.first rest e))
bad_is_read bytes b (Err More) e = absurd (b.none level_limit ((skips_item level_limit).more (take b.count bytes) e))
bad_is_read bytes b (Err Bad) e = refl
bad_is_read bytes b (Err Deep) e = absurd (b.none (suc level_limit) (deep_front bytes b.count b.first e))

deep_is_read : (bytes : List ℕ) (b : IsTooDeep bytes) (r : Result (List ℕ) Stop) → skip_item level_limit (take b.count bytes) ≡ r → r ≡ Err Deep
deep_is_read bytes b (Ok rest) e = absurd (b.none (no_shorter_item bytes b.count b.first rest e))
deep_is_read bytes b (Err More) e = absurd (b.none ((skips_item level_limit).more (take b.count bytes) e))
deep_is_read bytes b (Err Bad) e = absurd (bad_none level_limit (take b.count bytes) e b.depth b.some)
deep_is_read bytes b (Err Deep) e = refl

only_of : (bytes : List ℕ) (answer : Scan) → IsAnswer bytes answer → answer ≡ scan_result bytes (skip_item level_limit bytes)
only_of bytes (scan.Whole n) (within, is) =
    let read : skip_item level_limit bytes ≡ Ok (drop n bytes) =
    ap (skip_item level_limit) (sym (take-append-drop n bytes)) ∙ (skips_item level_limit).again (take n bytes) (drop n bytes) is in
    let len : length bytes - length (drop n bytes) ≡ n = omega (arith, length-drop n bytes) in
    sym (ap (scan_result bytes) read ∙ ap (λ (k : ℕ). scan.Whole k) len)
only_of bytes scan.More b = sym (ap (scan_result bytes) (begun_not_read bytes (skip_item level_limit bytes) b refl))
only_of bytes scan.Bad b =
    sym (ap (scan_result bytes) (front_decides bytes b.count Bad bad_decides (bad_is_read bytes b (skip_item level_limit (take b.count bytes)) refl)))
only_of bytes scan.Deep b =
    sym (ap (scan_result bytes) (front_decides bytes b.count Deep deep_decides (deep_is_read bytes b (skip_item level_limit (take b.count bytes)) refl)))

pub only_answer : (bytes : List ℕ) (answer : Scan) → IsAnswer bytes answer → answer ≡ scan_of bytes
unfolding scan_of
only_answer bytes answer is = only_of bytes answer is

-- ---- as the code answers

pub rest_is_shorter : (depth : ℕ) (bytes rest : List ℕ) → skip_item depth bytes ≡ Ok rest → length rest ≤ length bytes
rest_is_shorter depth bytes rest e =
    let f = (skips_item depth).found bytes rest e in
    omega (arith, ap length f.joined, length-append f.front rest)

pub scanned : (bytes : List ℕ) (r : Result (List ℕ) Stop) → skip_item level_limit bytes ≡ r → scan_result bytes r ≡ scan_of bytes
unfolding scan_of
scanned bytes r e = sym (ap (scan_result bytes) e)

pub means : (bytes : List ℕ) (answer : Scan) → answer ≡ scan_of bytes → IsAnswer bytes answer
means bytes answer e = subst (IsAnswer bytes) (sym e) (answer_means bytes)

pub only : (bytes : List ℕ) (answer other : Scan) → answer ≡ scan_of bytes → IsAnswer bytes other → other ≡ answer
only bytes answer other e is = only_answer bytes other is ∙ sym e
