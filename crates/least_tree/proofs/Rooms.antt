-- Numbers that are laid among the leaves.
use Rattle.std.proofs.Common.{◌≡◌, ℕ, ◌+◌, ◌-◌, ◌*◌, ◌<◌, ◌≤◌, List, ◌∷◌, ◌++◌, length, take, drop, replicate, sym, ap, ◌∙◌, arith}
use Rattle.std.proofs.lemmas.List.{drop_at, drop-append-le, drop-drop, drop-replicate, drop-take, length-append, length-drop, length-replicate, length-take-le, take_at, take-append-drop, take-append-le, append_assoc}
use Rattle.std.specs.List.{insert}
use borrow.Rule.Slice.PartMut.{put_mid}
use Rattle.least_tree.specs.Numbers.{none, IsLaid}

pub laid : (xs ys zs : List ℕ) (size k : ℕ) → length ys ≤ size → k ≡ length ys → xs ≡ replicate (2 * size) none → zs ≡ ys →
    drop size (put_mid size k xs zs) ≡ ys ++ replicate (size - length ys) none
laid xs ys zs size k fits count all same =
    let long : size ≤ length xs = omega (arith, ap length all, length-replicate (2 * size) none) in
    let left : 2 * size - size - k ≡ size - length ys = omega (arith, fits, count) in
    drop_at (take size xs) (zs ++ drop k (drop size xs)) size (length-take-le size xs long)
    ∙ (ap (λ l. l ++ drop k (drop size xs)) same
    ∙ ap (λ l. ys ++ l)
    (ap (λ l. drop k (drop size l)) all
    ∙ (ap (drop k) (drop-replicate size (2 * size) none) ∙ (drop-replicate k (2 * size - size) none ∙ ap (λ n. replicate n none) left))))

pub are_laid : (ns row : List ℕ) (n : ℕ) → row ≡ ns ++ replicate n none → IsLaid ns row
are_laid ns row n is =
    let left : n ≡ length row - length ns = omega (arith, ap length is, length-append ns (replicate n none), length-replicate n none) in
    is ∙ ap (λ k. ns ++ replicate k none) left

-- ---- one is put in, and the last drops out

put_in : (D T : List ℕ) (s p v : ℕ) → length D + 1 ≡ s → p < s → insert D p v ≡ take s (insert (D ++ T) p v)
put_in D T s p v long inside =
    let upto : p ≤ length D = omega (arith, long, inside) in
    let count : length (insert D p v) ≡ s = omega (arith, length-append (take p D) (v ∷ drop p D), length-take-le p D upto, length-drop p D, long, upto) in
    let parts : insert (D ++ T) p v ≡ insert D p v ++ T =
    ap (λ l. l ++ v ∷ drop p (D ++ T)) (take-append-le p D T upto)
    ∙ (ap (λ l. take p D ++ v ∷ l) (drop-append-le p D T upto) ∙ sym (append_assoc (take p D) (v ∷ drop p D) T)) in
    sym (ap (take s) parts ∙ take_at (insert D p v) T s count)

pub put_among : (X P T : List ℕ) (s p v : ℕ) → X ≡ P ++ T → length P + 1 ≡ 2 * s → p < s →
    drop s (insert P (s + p) v) ≡ take s (insert (drop s X) p v)
put_among X P T s p v parts long inside =
    let upto : s ≤ length P = omega (arith, long, inside) in
    let first : s ≤ length (take (s + p) P) = omega (arith, length-take-le (s + p) P (omega (arith, long, inside))) in
    drop-append-le s (take (s + p) P) (v ∷ drop (s + p) P) first
    ∙ (ap (λ l. l ++ v ∷ drop (s + p) P) (drop-take s p P) ∙ (ap (λ l. take p (drop s P) ++ v ∷ l) (sym (drop-drop p s P))
    ∙ (put_in (drop s P) T s p v (omega (arith, length-drop s P, long, inside)) inside
    ∙ ap (λ l. take s (insert l p v)) (sym (ap (drop s) parts ∙ drop-append-le s P T upto)))))

pub length-insert : (xs : List ℕ) (i v : ℕ) → length (insert xs i v) ≡ length xs + 1
length-insert xs i v =
    let whole = ap length (take-append-drop i xs) in
    omega (arith, whole, length-append (take i xs) (drop i xs), length-append (take i xs) (v ∷ drop i xs))
