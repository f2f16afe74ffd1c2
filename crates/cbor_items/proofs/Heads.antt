-- A head that is read stands at the front, and a head at the front is read, whatever follows it.
use Rattle.std.proofs.Common.{◌≡◌, ◌≢◌, ℕ, ◌-◌, ◌≤◌, ◌<◌, true, false, cond, eqb, ltb, List, [], ◌∷◌, ◌++◌, length, take, drop, replicate, Some, Result, Ok, Err, refl, sym, ap, subst, ◌∙◌, arith, inl, inr, lit<}
use Rattle.std.proofs.lemmas.Bool.{ltb-true, ltb-false, le-ltb, cases_Bool, cases_lt, eqb-true}
use Rattle.std.proofs.lemmas.List.{length-append, length-take, length-replicate, take-append-drop, take-append-le, take_at, drop_at}
use Rattle.std.proofs.lemmas.List.Elements.{All-replicate}
use Rattle.cbor_items.specs.declared.head.Head.{Head}
use Rattle.cbor_items.specs.declared.stop.Stop.{Stop}
use Rattle.cbor_items.specs.declared.stop.Stop.TheVariants.{More, Bad}
use Rattle.cbor_items.specs.Reading.{◌>>=◌}
use Rattle.cbor_items.specs.Head.{info_of, argument_len, may_begin, may_follow, head_of, IsHead, initial_at, argument_at, head_and_rest, found_head, head_at}
use Rattle.cbor_items.specs.Item.{Begins}
use Rattle.cbor_items.proofs.Skips.{HasFront, bind_ok, chosen}

-- the argument of an initial byte, all of these bytes
abbrev pub IsArgument : ℕ → Head → List ℕ → Type 0
IsArgument initial head argument = IsHead head (initial ∷ argument)

abbrev argument_len_at : ℕ → ℕ
argument_len_at initial = argument_len (info_of initial)

-- what is read where all of the argument is there
abbrev checked_argument : ℕ → List ℕ → Result (Head × List ℕ) Stop
checked_argument initial bytes = let n = argument_len_at initial in
    cond (may_follow initial (take n bytes)) (Ok (head_of initial (take n bytes), drop n bytes)) (Err Bad)

pub initial_found : (bytes : List ℕ) (initial : ℕ) (rest : List ℕ) → initial_at bytes ≡ Ok (initial, rest) → (bytes ≡ initial ∷ rest) × (may_begin initial ≡ true)
initial_found [] initial rest e = absurd cc
initial_found (byte ∷ bytes) initial rest e =
    elim (chosen (may_begin byte) (Ok (byte, bytes)) (Err Bad) (Ok (initial, rest)) e) [
      | inl (begins, read) ↦
          let is : ◌≡◌ {A = ℕ × List ℕ} (byte, bytes) (initial, rest) = cc in
          let initial-is : byte ≡ initial = ap (λ (p : ℕ × List ℕ). p.0) is in
          let rest-is : bytes ≡ rest = ap (λ (p : ℕ × List ℕ). p.1) is in
          (rw (initial-is, rest-is) refl, rw (← initial-is) begins)
      | inr (wrong, read) ↦ absurd cc
    ]

pub initial_stays : (bytes after : List ℕ) (stop : Stop) → stop ≢ More → initial_at bytes ≡ Err stop → initial_at (bytes ++ after) ≡ Err stop
initial_stays [] after stop known e = absurd (known cc)
initial_stays (byte ∷ bytes) after stop known e =
    elim (chosen (may_begin byte) (Ok (byte, bytes)) (Err Bad) (Err stop) e) [
      | inl (begins, read) ↦ absurd cc
      | inr (wrong, read) ↦ rw wrong read
    ]

pub argument_found : (initial : ℕ) (bytes : List ℕ) (head : Head) (rest : List ℕ) → may_begin initial ≡ true → argument_at initial bytes ≡ Ok (head, rest)
    → HasFront (IsArgument initial head) bytes rest
argument_found initial bytes head rest begins e =
    let n = argument_len_at initial in
    elim (chosen (ltb (length bytes) n) (Err More) (checked_argument initial bytes) (Ok (head, rest)) e) [
      | inl (short, read) ↦ absurd cc
      | inr (long, read) ↦ elim (chosen (may_follow initial (take n bytes)) (Ok (head_of initial (take n bytes), drop n bytes)) (Err Bad) (Ok (head, rest)) read) [
        | inl (follows, found) ↦
            let fits : n ≤ length bytes = ltb-false _ _ long in
            let is : ◌≡◌ {A = Head × List ℕ} (head_of initial (take n bytes), drop n bytes) (head, rest) = cc in
            let head-is : head_of initial (take n bytes) ≡ head = ap (λ (p : Head × List ℕ). p.0) is in
            let rest-is : drop n bytes ≡ rest = ap (λ (p : Head × List ℕ). p.1) is in
            record {
              front = take n bytes;
              joined = rw (← rest-is) (sym (take-append-drop n bytes));
              is = record {
                initial = initial;
                argument = take n bytes;
                joined = refl;
                begins = begins;
                whole = omega (arith, length-take n bytes);
                follows = follows;
                is = sym head-is;
              };
            }
        | inr (wrong, found) ↦ absurd cc
      ]
    ]

pub initial_again : (head : Head) (spelled : List ℕ) (is : IsHead head spelled) (rest : List ℕ) → initial_at (spelled ++ rest) ≡ Ok (is.initial, is.argument ++ rest)
initial_again head spelled is rest = ap (λ (x : List ℕ). initial_at (x ++ rest)) is.joined ∙ rw is.begins refl

pub argument_again : (head : Head) (spelled : List ℕ) (is : IsHead head spelled) (rest : List ℕ) → argument_at is.initial (is.argument ++ rest) ≡ Ok (head, rest)
argument_again head spelled is rest =
    let n = argument_len_at is.initial in
    let long : ltb (length (is.argument ++ rest)) n ≡ false = le-ltb _ _ (omega (arith, length-append is.argument rest, is.whole)) in
    rw (long, take_at is.argument rest n is.whole, drop_at is.argument rest n is.whole, is.follows, ← is.is) refl

-- the initial byte of a head is told by its bytes
pub initial_is : (initial : ℕ) (argument : List ℕ) (head : Head) (is : IsHead head (initial ∷ argument)) → (is.initial ≡ initial) × (is.argument ≡ argument)
initial_is initial argument head is = let e : is.initial ∷ is.argument ≡ initial ∷ argument = sym is.joined in (cc, cc)

pub argument_reads : (initial : ℕ) (argument : List ℕ) (head : Head) → IsHead head (initial ∷ argument) → (rest : List ℕ) → argument_at initial (argument ++ rest) ≡ Ok (head, rest)
argument_reads initial argument head is rest =
    let i = initial_is initial argument head is in
    rw (← i.0, ← i.1) (argument_again head (initial ∷ argument) is rest)

pub argument_stays : (initial : ℕ) (bytes after : List ℕ) (stop : Stop) → stop ≢ More → argument_at initial bytes ≡ Err stop → argument_at initial (bytes ++ after) ≡ Err stop
argument_stays initial bytes after stop known e =
    let n = argument_len_at initial in
    elim (chosen (ltb (length bytes) n) (Err More) (checked_argument initial bytes) (Err stop) e) [
      | inl (short, read) ↦ absurd (known cc)
      | inr (long, read) ↦ elim (chosen (may_follow initial (take n bytes)) (Ok (head_of initial (take n bytes), drop n bytes)) (Err Bad) (Err stop) read) [
        | inl (follows, found) ↦ absurd cc
        | inr (wrong, found) ↦
            let fits : n ≤ length bytes = ltb-false _ _ long in
            let longer : ltb (length (bytes ++ after)) n ≡ false = le-ltb _ _ (omega (arith, length-append bytes after)) in
            rw (longer, take-append-le n bytes after fits, wrong) found
      ]
    ]

-- Bytes of 32 complete every argument.
pub filled : ℕ → List ℕ → List ℕ
filled initial bytes = replicate (argument_len_at initial - length bytes) 32

not_simple : (initial : ℕ) (argument : List ℕ) → eqb initial 248 ≡ false → may_follow initial argument ≡ true
not_simple initial argument other = rw other refl

pub filled_follows : (initial : ℕ) (bytes : List ℕ) → length bytes < argument_len_at initial → may_follow initial (bytes ++ filled initial bytes) ≡ true
unfolding filled
filled_follows initial [] short =
    elim (cases_Bool (eqb initial 248)) [
      | inl simple ↦ rw (eqb-true _ _ simple) refl
      | inr other ↦ not_simple initial (filled initial []) other
    ]
filled_follows initial (byte ∷ bytes) short =
    elim (cases_Bool (eqb initial 248)) [
      | inl simple ↦ let one : argument_len_at initial ≡ 1 = rw (eqb-true _ _ simple) refl in absurd (omega arith)
      | inr other ↦ not_simple initial ((byte ∷ bytes) ++ filled initial (byte ∷ bytes)) other
    ]

-- an argument of which something is missing, and which therefore has some bytes
pub record IsShort (initial : ℕ) (bytes : List ℕ) : Type 0 where
  pub head : Head
  pub begun : Begins (IsArgument initial head) bytes
  pub some : 0 < argument_len (info_of initial)

pub argument_more : (initial : ℕ) (bytes : List ℕ) → may_begin initial ≡ true → argument_at initial bytes ≡ Err More → IsShort initial bytes
unfolding filled
argument_more initial bytes begins e =
    let n = argument_len_at initial in
    elim (chosen (ltb (length bytes) n) (Err More) (checked_argument initial bytes) (Err More) e) [
      | inl (short, read) ↦
          let lt : length bytes < n = ltb-true _ _ short in
          let argument = bytes ++ filled initial bytes in
          let whole : length argument ≡ n = omega (arith, length-append bytes (filled initial bytes), length-replicate {A = ℕ} (n - length bytes) 32) in
          record {
            head = head_of initial argument;
            some = omega arith;
            begun = record {
              missing = filled initial bytes;
              are_bytes = All-replicate (λ byte. byte < 256) (n - length bytes) 32 (lit< tt);
              is = record {
                initial = initial;
                argument = argument;
                joined = refl;
                begins = begins;
                whole = whole;
                follows = filled_follows initial bytes lt;
                is = refl;
              };
            };
          }
      | inr (long, read) ↦ elim (chosen (may_follow initial (take n bytes)) (Ok (head_of initial (take n bytes), drop n bytes)) (Err Bad) (Err More) read) [
        | inl (follows, found) ↦ absurd cc
        | inr (wrong, found) ↦ absurd cc
      ]
    ]

-- ---- the head as `read_head` gives it

found_head_is : (r : Result (Head × List ℕ) Stop) (head : Head) → found_head r ≡ Some head → (rest : List ℕ) × (r ≡ Ok (head, rest))
found_head_is (Ok read) head e = let is : read.0 ≡ head = cc in (read.1, ap (λ (h : Head). Ok (h, read.1)) is)
found_head_is (Err stop) head e = absurd cc

-- an initial byte and its argument are a head
pub head_is_read : (bytes : List ℕ) (initial : ℕ) (behind : List ℕ) (head : Head) (rest : List ℕ)
    → initial_at bytes ≡ Ok (initial, behind) → argument_at initial behind ≡ Ok (head, rest) → HasFront (IsHead head) bytes rest
head_is_read bytes initial behind head rest one two =
    let i = initial_found bytes initial behind one in
    let a = argument_found initial behind head rest i.1 two in
    record { front = initial ∷ a.front; joined = i.0 ∙ ap (λ (x : List ℕ). initial ∷ x) a.joined; is = a.is }

pub head_found : (bytes : List ℕ) (head : Head) → head_at bytes ≡ Some head → (rest : List ℕ) × HasFront (IsHead head) bytes rest
unfolding head_at
head_found bytes head e =
    let f = found_head_is (initial_at bytes >>= λ read. argument_at read.0 read.1) head e in
    let b = bind_ok (initial_at bytes) (λ read. argument_at read.0 read.1) (head, f.0) f.1 in
    (f.0, head_is_read bytes b.0.0 b.0.1 head f.0 b.1 b.2)

pub size_of_head : (head : Head) (spelled : List ℕ) → IsHead head spelled → head.size ≡ length spelled
size_of_head head spelled is = ap (λ (h : Head). h.size) is.is ∙ omega (arith, ap length is.joined)

pub head_again : (head : Head) (spelled rest : List ℕ) → IsHead head spelled → head_at (spelled ++ rest) ≡ Some head
unfolding head_at
head_again head spelled rest is = rw (initial_again head spelled is rest, argument_again head spelled is rest) refl

pub only_head : (bytes : List ℕ) (head : Head) (n : ℕ) → IsHead head (take n bytes) → head_at bytes ≡ Some head
only_head bytes head n is = ap head_at (sym (take-append-drop n bytes)) ∙ head_again head (take n bytes) (drop n bytes) is

pub head_stands : (bytes : List ℕ) (head : Head) → head_at bytes ≡ Some head → IsHead head (take head.size bytes)
head_stands bytes head e =
    let f = head_found bytes head e in
    let front : take head.size bytes ≡ f.1.front = ap (take head.size) f.1.joined ∙ take_at f.1.front f.0 head.size (sym (size_of_head head f.1.front f.1.is)) in
    subst (IsHead head) (sym front) f.1.is

pub head_is_found : (bytes : List ℕ) (r : Result (Head × List ℕ) Stop) → head_and_rest bytes ≡ r → found_head r ≡ head_at bytes
unfolding head_at
head_is_found bytes r e = ap found_head (sym e)

-- every initial byte has an argument
pub every_argument : (initial : ℕ) → may_begin initial ≡ true → (head : Head) × Begins (IsArgument initial head) []
unfolding filled
every_argument initial begins =
    let n = argument_len_at initial in
    let argument = filled initial [] in
    let whole : length argument ≡ n = omega (arith, length-replicate {A = ℕ} (n - 0) 32) in
    let follows : may_follow initial argument ≡ true = elim (cases_lt 0 n) [
      | inl some ↦ filled_follows initial [] some
      | inr none ↦ elim (cases_Bool (eqb initial 248)) [
        | inl simple ↦ let one : argument_len_at initial ≡ 1 = rw (eqb-true _ _ simple) refl in absurd (omega arith)
        | inr other ↦ not_simple initial argument other
      ]
    ] in (
      head_of initial argument,
      record {
        missing = argument;
        are_bytes = All-replicate (λ byte. byte < 256) (n - 0) 32 (lit< tt);
        is = record { initial = initial; argument = argument; joined = refl; begins = begins; whole = whole; follows = follows; is = refl };
      },
    )
