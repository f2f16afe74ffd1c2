-- The keys of some rows, with room behind them, after a change of the rows.
use Rattle.std.proofs.Common.{◌≡◌, ℕ, zero, suc, ◌+◌, ◌-◌, ◌*◌, ◌<◌, ◌≤◌, List, [], ◌∷◌, ◌++◌, map, length, set, take, drop, replicate, refl, sym, ap, ◌∙◌, arith}
use Rattle.std.specs.List.{insert}
use Rattle.std.proofs.lemmas.List.{append_assoc, drop-append-le, length-append, length-map, length-replicate, length-set, length-take-le, map-append, map-set, take-append-le}
use Rattle.least_tree.specs.Numbers.{none, IsLaid}
use Rattle.least_tree.proofs.Rooms.{length-insert}

set-front : (xs ys : List ℕ) (i v : ℕ) → i < length xs → set (xs ++ ys) i v ≡ set xs i v ++ ys
set-front [] ys i v h = absurd (omega (arith, h))
set-front (x ∷ xs) ys zero v h = refl
set-front (x ∷ xs) ys (suc i) v h = ap (λ l. x ∷ l) (set-front xs ys i v (omega (arith, h)))

set-room : (xs : List ℕ) (m i v : ℕ) → i ≡ length xs → set (xs ++ replicate (suc m) none) i v ≡ (xs ++ v ∷ []) ++ replicate m none
set-room [] m zero v e = refl
set-room [] m (suc i) v e = absurd (omega (arith, e))
set-room (x ∷ xs) m zero v e = absurd (omega (arith, e))
set-room (x ∷ xs) m (suc i) v e = ap (λ l. x ∷ l) (set-room xs m i v (omega (arith, e)))

pub length-put_among : (keys : List ℕ) (place v : ℕ) → length (take (length keys) (insert keys place v)) ≡ length keys
length-put_among keys place v = length-take-le (length keys) (insert keys place v) (omega (arith, length-insert keys place v))

insert-front : (xs ys : List ℕ) (i v : ℕ) → i ≤ length xs → insert (xs ++ ys) i v ≡ insert xs i v ++ ys
insert-front xs ys i v h =
    ap (λ l. l ++ v ∷ drop i (xs ++ ys)) (take-append-le i xs ys h)
    ∙ (ap (λ l. take i xs ++ v ∷ l) (drop-append-le i xs ys h) ∙ sym (append_assoc (take i xs) (v ∷ drop i xs) ys))

take-room : (xs : List ℕ) (n m : ℕ) → length xs + m ≡ n → take n (xs ++ replicate (suc m) none) ≡ xs ++ replicate m none
take-room [] n m e = ap (λ k. take k (replicate (suc m) none)) (sym (omega (arith, e))) ∙ shorter m
  where
    shorter : (k : ℕ) → take k (replicate (suc k) none) ≡ replicate k none
    shorter zero = refl
    shorter (suc k) = ap (λ l. none ∷ l) (shorter k)
take-room (x ∷ xs) zero m e = absurd (omega (arith, e))
take-room (x ∷ xs) (suc n) m e = ap (λ l. x ∷ l) (take-room xs n m (omega (arith, e)))

module _ {X : Type 0} (key_in : X → ℕ) where
  -- their keys, and room for more
  abbrev pub IsOver : List X → List ℕ → Type 0
  IsOver rows keys = keys ≡ map key_in rows ++ replicate (length keys - length rows) none

  -- ---- one row is another

  pub over-set : (rows : List X) (keys new : List ℕ) (place : ℕ) (row : X) → place < length rows → IsOver rows keys →
      new ≡ set keys place (key_in row) → IsOver (set rows place row) new
  over-set rows keys new place row inside over is =
      let room : List ℕ = replicate (length keys - length rows) none in
      let still : length keys - length rows ≡ length new - length (set rows place row) =
      omega (arith, ap length is, length-set keys place (key_in row), length-set rows place row) in
      is
      ∙ (ap (λ l. set l place (key_in row)) over
      ∙ (set-front (map key_in rows) room place (key_in row) (omega (arith, inside, length-map rows key_in))
      ∙ (ap (λ l. l ++ room) (sym (map-set key_in rows place row)) ∙ ap (λ n. map key_in (set rows place row) ++ replicate n none) still)))

  -- ---- one comes at the end

  pub over-push : (rows : List X) (keys new : List ℕ) (place : ℕ) (row : X) → place ≡ length rows → length rows < length keys → IsOver rows keys →
      new ≡ set keys place (key_in row) → IsOver (rows ++ row ∷ []) new
  over-push rows keys new place row end room over is =
      let left : ℕ = length keys - length rows - 1 in
      let more : length keys - length rows ≡ suc left = omega (arith, room) in
      let rest : left ≡ length new - length (rows ++ row ∷ []) =
      omega (arith, ap length is, length-set keys place (key_in row), length-append rows (row ∷ [])) in
      is
      ∙ (ap (λ l. set l place (key_in row)) (over ∙ ap (λ n. map key_in rows ++ replicate n none) more)
      ∙ (set-room (map key_in rows) left place (key_in row) (omega (arith, end, length-map rows key_in))
      ∙ (ap (λ l. l ++ replicate left none) (sym (map-append key_in rows (row ∷ []))) ∙ ap (λ n. map key_in (rows ++ row ∷ []) ++ replicate n none) rest)))

  insert-end : (rows : List X) (place : ℕ) (row : X) → place ≡ length rows → insert rows place row ≡ rows ++ row ∷ []
  insert-end rows place row e = ap (λ n. insert rows n row) e ∙ at_end rows
    where
      at_end : (rs : List X) → insert rs (length rs) row ≡ rs ++ row ∷ []
      at_end [] = refl
      at_end (r ∷ rs) = ap (λ l. r ∷ l) (at_end rs)

  -- one without a number needs no change
  pub over-behind : (rows : List X) (keys : List ℕ) (place : ℕ) (row : X) → key_in row ≡ none → place ≡ length rows → length rows < length keys →
      IsOver rows keys → IsOver (insert rows place row) keys
  over-behind rows keys place row nothing end room over =
      let new : List X = rows ++ row ∷ [] in
      let is : insert rows place row ≡ new = insert-end rows place row end in
      let more : length keys - length rows ≡ suc (length keys - length new) = omega (arith, length-append rows (row ∷ []), room) in
      over
      ∙ (ap (λ n. map key_in rows ++ replicate n none) more
      ∙ (sym (append_assoc (map key_in rows) (none ∷ []) (replicate (length keys - length new) none))
      ∙ (ap (λ n. (map key_in rows ++ n ∷ []) ++ replicate (length keys - length new) none) (sym nothing)
      ∙ (ap (λ l. l ++ replicate (length keys - length new) none) (sym (map-append key_in rows (row ∷ [])))
      ∙ ap (λ rs. map key_in rs ++ replicate (length keys - length rs) none) (sym is)))))

  -- ---- one comes between others

  map-insert : (rows : List X) (place : ℕ) (row : X) → map key_in (insert rows place row) ≡ insert (map key_in rows) place (key_in row)
  map-insert rows zero row = refl
  map-insert [] (suc n) row = refl
  map-insert (r ∷ rs) (suc n) row = ap (λ l. key_in r ∷ l) (map-insert rs n row)

  pub over-insert : (rows : List X) (keys : List ℕ) (place : ℕ) (row : X) (new : List ℕ) → place ≤ length rows → length rows < length keys →
      IsOver rows keys → new ≡ take (length keys) (insert keys place (key_in row)) → IsOver (insert rows place row) new
  over-insert rows keys place row new inside room over is =
      let left : ℕ = length keys - length rows - 1 in
      let more : length keys - length rows ≡ suc left = omega (arith, room) in
      let count : length (insert (map key_in rows) place (key_in row)) + left ≡ length keys =
      omega (arith, length-insert (map key_in rows) place (key_in row), length-map rows key_in, room) in
      let rest : left ≡ length new - length (insert rows place row) =
      omega (
        arith,
        ap length is,
        length-put_among keys place (key_in row),
        ap length (map-insert rows place row),
        length-map (insert rows place row) key_in,
        length-insert (map key_in rows) place (key_in row),
        length-map rows key_in,
        room,
      ) in
      is
      ∙ (ap (λ l. take (length keys) (insert l place (key_in row))) (over ∙ ap (λ n. map key_in rows ++ replicate n none) more)
      ∙ (ap (take (length keys)) (insert-front (map key_in rows) (replicate (suc left) none) place (key_in row) (omega (arith, inside, length-map rows key_in)))
      ∙ (take-room (insert (map key_in rows) place (key_in row)) (length keys) left count
      ∙ (ap (λ l. l ++ replicate left none) (sym (map-insert rows place row)) ∙ ap (λ n. map key_in (insert rows place row) ++ replicate n none) rest))))

  -- ---- all anew

  pub over-anew : (rows : List X) (keys : List ℕ) → IsLaid (map key_in rows) keys → IsOver rows keys
  over-anew rows keys is = is ∙ ap (λ n. map key_in rows ++ replicate (length keys - n) none) (length-map rows key_in)
