-- The first line of some bytes: where it is a line, that stands in front of them and is ended there.
use Rattle.std.proofs.Common.{◌≡◌, ℕ, ◌<◌, ◌≤◌, Bool, true, false, List, [], ◌∷◌, ◌++◌, length, get_or, take, drop, Option, Some, None, slice_get, MatchBool, refl, sym, ap, subst, ◌∙◌, arith}
use lib.Dec.{eqb}
use lib.Pointwise.{pointwise}
use Rattle.std.specs.List.{before_first, position_or_len}
use Rattle.std.proofs.lemmas.Bool.{eqb-true, false≢true}
use Rattle.std.proofs.lemmas.Bool.Decides.{Decides-eqb}
use Rattle.std.proofs.lemmas.Slice.Eq.{slice_eq-Decides}
use Rattle.std.proofs.lemmas.List.{append-nil, length-take, length-append, get_or_at}
use Rattle.std.proofs.lemmas.List.Sums.{prefix_len-le-length, passes_at_first}
use Rattle.std.proofs.lemmas.Option.{none-some, same_Some}
use Rattle.io_edge.specs.Lines.{is_line_feed, HasNoLineFeed}
use Rattle.io_edge.specs.Pending.{front_line}
use Rattle.io_edge.proofs.LineLemmas.{before_first-line, before_first-none}

found_before : (bytes line : List ℕ) → front_line bytes ≡ Some line → before_first is_line_feed bytes ≡ line
found_before [] line is = absurd (none-some line is)
found_before (byte ∷ bytes) line is = same_Some _ line is

found_at : (bytes line : List ℕ) → front_line bytes ≡ Some line → position_or_len is_line_feed bytes ≡ length line
found_at bytes line is =
    let most : position_or_len is_line_feed bytes ≤ length bytes = prefix_len-le-length _ bytes in
    omega (arith, most, length-take (position_or_len is_line_feed bytes) bytes, ap length (found_before bytes line is))

stands_in_front : (bytes line : List ℕ) → front_line bytes ≡ Some line → take (length line) bytes ≡ line
stands_in_front bytes line is = ap (λ n. take n bytes) (sym (found_at bytes line is)) ∙ found_before bytes line is

ended_there : (bytes line : List ℕ) → front_line bytes ≡ Some line → length line < length bytes → get_or bytes (length line) 0 ≡ 10
ended_there bytes line is more =
    let at = found_at bytes line is in
    ap (λ n. get_or bytes n 0) (sym at) ∙ eqb-true _ 10 (passes_at_first is_line_feed bytes 0 (omega (arith, at, more)))

front_ended : (line rest : List ℕ) → HasNoLineFeed line → front_line (line ++ 10 ∷ rest) ≡ Some line
front_ended [] rest clean = refl
front_ended (byte ∷ bytes) rest clean = ap (λ l. Some l) (before_first-line (byte ∷ bytes) rest clean)

front_last : (line : List ℕ) → HasNoLineFeed line → 0 < length line → front_line line ≡ Some line
front_last [] clean some = absurd (omega (arith, some))
front_last (byte ∷ bytes) clean some = ap (λ l. Some l) (before_first-none (byte ∷ bytes) clean)

-- the line is in front, and a line feed is next
pub first_by_feed : (bytes line front rest : List ℕ) (next : ℕ) → bytes ≡ front ++ rest → Some next ≡ slice_get rest 0 → next ≡ 10 → HasNoLineFeed line →
    front ≡ line → front_line bytes ≡ Some line
first_by_feed bytes line front [] next cut there feed clean same = absurd (none-some next (sym there))
first_by_feed bytes line front (byte ∷ rest) next cut there feed clean same =
    let is : byte ≡ 10 = sym (same_Some next byte there) ∙ feed in
    ap front_line (cut ∙ (ap (λ l. l ++ byte ∷ rest) same ∙ ap (λ b. line ++ b ∷ rest) is)) ∙ front_ended line rest clean

-- the line is in front, and nothing is next
pub first_at_end : (bytes line front rest : List ℕ) → bytes ≡ front ++ rest → None ≡ slice_get rest 0 → 0 < length front → HasNoLineFeed line →
    front ≡ line → front_line bytes ≡ Some line
first_at_end bytes line front [] cut over some clean same =
    ap front_line (cut ∙ (append-nil front ∙ same)) ∙ front_last line clean (subst (λ l. 0 < length l) same some)
first_at_end bytes line front (byte ∷ rest) cut over some clean same = absurd (none-some byte over)

-- something else is next
pub not_by : (bytes line front rest : List ℕ) (next : ℕ) → bytes ≡ front ++ rest → front ≡ take (length line) bytes → Some next ≡ slice_get rest 0 →
    (next ≡ 10 → ⊥) → front_line bytes ≡ Some line → ⊥
not_by bytes line front [] next cut at there other is = absurd (none-some next (sym there))
not_by bytes line front (byte ∷ rest) next cut at there other is =
    let all : bytes ≡ line ++ byte ∷ rest = cut ∙ ap (λ l. l ++ byte ∷ rest) (at ∙ stands_in_front bytes line is) in
    let feed = ended_there bytes line is (omega (arith, ap length all, length-append line (byte ∷ rest))) in
    other (same_Some next byte there ∙ (sym (ap (λ b. get_or b (length line) 0) all ∙ get_or_at line byte rest 0 (length line) refl) ∙ feed))

-- where what stands in front makes a first line once it is the line, a look at it decides
pub decides : (r : Bool) (bytes line front : List ℕ) → r ≡ pointwise eqb front line → front ≡ take (length line) bytes →
    (front ≡ line → front_line bytes ≡ Some line) → MatchBool r (front_line bytes ≡ Some line) (¬ (front_line bytes ≡ Some line))
decides r bytes line front e at makes =
    let d = slice_eq-Decides Decides-eqb front line r e in
    tells r (λ t. makes (d.0 t)) (λ is. d.1 (at ∙ stands_in_front bytes line is))
  where
    tells : {P : Type 0} (t : Bool) → (t ≡ true → P) → (P → t ≡ true) → MatchBool t P (¬ P)
    tells true f g = f refl
    tells false f g = λ p. false≢true (g p)

-- a number that is no line feed, and what does not hold then
pub never : {P : Type 0} (next : ℕ) → (next ≡ 10 → ⊥) → (P → ⊥) → MatchBool (eqb next 10) P (¬ P)
never {P} next other absent = subst (λ b. MatchBool b P (¬ P)) (sym (by_test (eqb next 10) refl)) absent
  where
    by_test : (b : Bool) → eqb next 10 ≡ b → eqb next 10 ≡ false
    by_test true is = absurd (other (eqb-true next 10 is))
    by_test false is = is
