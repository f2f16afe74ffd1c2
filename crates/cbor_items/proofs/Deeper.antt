-- The same scan with one more level: what is an item stays one, what is refused stays refused, and what is too
-- deep begins an item there.
use Rattle.std.proofs.Common.{◌≡◌, ◌≢◌, ℕ, zero, suc, ◌≤◌, Bool, true, false, cond, eqb, ltb, MatchBool, List, [], ◌∷◌, ◌++◌, length, take, drop, Ok, Err, refl, sym, ap, subst, ◌∙◌, append_assoc, arith, inl, inr}
use Rattle.std.proofs.lemmas.Bool.{eqb-false, ne_eqb}
use Rattle.std.proofs.lemmas.List.{length-append}
use Rattle.cbor_items.specs.declared.head.Head.{Head}
use Rattle.cbor_items.specs.declared.stop.Stop.TheVariants.{More, Bad, Deep}
use Rattle.cbor_items.specs.Reading.{◌>>=◌}
use Rattle.cbor_items.specs.Head.{info_of, argument_len, may_begin, may_follow, head_of, argument_at}
use Rattle.cbor_items.specs.Item.{Begins, IsPair, IsRow, IsRowToBreak}
use Rattle.cbor_items.specs.Scan.{Skip, skip_pair, skip_row, skip_to_break}
use Rattle.cbor_items.proofs.Skips.{Skips, AreBytes-append, bind_err, chosen, row_example, IsLed, skip_led, StartsPlain, one_more, one_then_break}
use Rattle.cbor_items.proofs.Heads.{argument_found, argument_reads}
use Rattle.cbor_items.proofs.Items.{IsBehind, skip_behind}

-- a front at which the skip finds too many levels, and which begins a thing of another grammar
pub record TooDeep (Other : List ℕ → Type 0) (skip : Skip) (bytes : List ℕ) : Type 0 where
  pub front : List ℕ
  pub rest : List ℕ
  pub joined : bytes ≡ front ++ rest
  pub is_deep : skip front ≡ Err Deep
  pub begun : Begins Other front

pub record Deepens (Thing : List ℕ → Type 0) (skip : Skip) (Other : List ℕ → Type 0) (other : Skip) : Type 0 where
  pub wider : (x : List ℕ) → Thing x → Other x
  pub bad : (bytes : List ℕ) → skip bytes ≡ Err Bad → other bytes ≡ Err Bad
  pub deep : (bytes : List ℕ) → skip bytes ≡ Err Deep → TooDeep Other skip bytes

pub deepens_same : {Thing Other Thing' Other' : List ℕ → Type 0} {skip other : Skip} (skip' other' : Skip)
    → ((x : List ℕ) → Thing' x → Thing x) → ((x : List ℕ) → Other x → Other' x) → ((x : List ℕ) → skip' x ≡ skip x) → ((x : List ℕ) → other' x ≡ other x)
    → Deepens Thing skip Other other → Deepens Thing' skip' Other' other'
deepens_same skip' other' back to same same' d = record {
  wider = λ x t. to x (d.wider x (back x t));
  bad = λ bytes e. same' bytes ∙ d.bad bytes (sym (same bytes) ∙ e);
  deep = λ bytes e. let t = d.deep bytes (sym (same bytes) ∙ e) in
      record {
        front = t.front;
        rest = t.rest;
        joined = t.joined;
        is_deep = same t.front ∙ t.is_deep;
        begun = record { missing = t.begun.missing; are_bytes = t.begun.are_bytes; is = to (t.front ++ t.begun.missing) t.begun.is };
      };
}

-- where nothing is ever too deep
pub deepens_flat : (Thing : List ℕ → Type 0) (skip : Skip) → ((bytes : List ℕ) → skip bytes ≡ Err Deep → ⊥) → Deepens Thing skip Thing skip
deepens_flat Thing skip never = record { wider = λ x t. t; bad = λ bytes e. e; deep = λ bytes e. absurd (never bytes e) }

pub deepens_cond : {Thing Other Thing' Other' : List ℕ → Type 0} {skip other skip' other' : Skip} (b : Bool)
    → (b ≡ true → Deepens Thing skip Thing' skip') → (b ≡ false → Deepens Other other Other' other')
    → Deepens (λ x. MatchBool b (Thing x) (Other x)) (λ x. cond b (skip x) (other x)) (λ x. MatchBool b (Thing' x) (Other' x)) (λ x. cond b (skip' x) (other' x))
deepens_cond true s o = s refl
deepens_cond false s o = o refl

-- ---- pairs and rows

module _ (First First' Second Second' : List ℕ → Type 0) (first first' second second' : Skip)
    (one : Skips First first) (one' : Skips First' first') (d : Deepens First first First' first') (e : Deepens Second second Second' second')
    (some : Begins Second' []) where
  pair_wider : (x : List ℕ) → IsPair First Second x → IsPair First' Second' x
  pair_wider x p = record { first = p.first; second = p.second; joined = p.joined; is_first = d.wider p.first p.is_first; is_second = e.wider p.second p.is_second }

  pair_bad : (bytes : List ℕ) → skip_pair first second bytes ≡ Err Bad → skip_pair first' second' bytes ≡ Err Bad
  pair_bad bytes is =
      elim (bind_err (first bytes) second Bad is) [
        | inl f ↦ ap (λ r. r >>= second') (d.bad bytes f)
        | inr then ↦
            let f = one.found bytes then.read then.is in
            let read : first' bytes ≡ Ok then.read = ap first' f.joined ∙ one'.again f.front then.read (d.wider f.front f.is) in
            ap (λ r. r >>= second') read ∙ e.bad then.read then.then
      ]

  pair_deep : (bytes : List ℕ) → skip_pair first second bytes ≡ Err Deep → TooDeep (IsPair First' Second') (skip_pair first second) bytes
  pair_deep bytes is =
      elim (bind_err (first bytes) second Deep is) [
        | inl f ↦ let t = d.deep bytes f in record {
          front = t.front;
          rest = t.rest;
          joined = t.joined;
          is_deep = ap (λ r. r >>= second) t.is_deep;
          begun = record {
            missing = t.begun.missing ++ some.missing;
            are_bytes = AreBytes-append t.begun.missing some.missing t.begun.are_bytes some.are_bytes;
            is = record {
              first = t.front ++ t.begun.missing;
              second = some.missing;
              joined = sym (append_assoc t.front t.begun.missing some.missing);
              is_first = t.begun.is;
              is_second = some.is;
            };
          };
        }
        | inr then ↦ let f = one.found bytes then.read then.is in let t = e.deep then.read then.then in record {
          front = f.front ++ t.front;
          rest = t.rest;
          joined = f.joined ∙ ap (λ (x : List ℕ). f.front ++ x) t.joined ∙ sym (append_assoc f.front t.front t.rest);
          is_deep = ap (λ r. r >>= second) (one.again f.front t.front f.is) ∙ t.is_deep;
          begun = record {
            missing = t.begun.missing;
            are_bytes = t.begun.are_bytes;
            is = record {
              first = f.front;
              second = t.front ++ t.begun.missing;
              joined = append_assoc f.front t.front t.begun.missing;
              is_first = d.wider f.front f.is;
              is_second = t.begun.is;
            };
          };
        }
      ]

  pub deepens_pair : Deepens (IsPair First Second) (skip_pair first second) (IsPair First' Second') (skip_pair first' second')
  deepens_pair = record { wider = pair_wider; bad = pair_bad; deep = pair_deep }

pub deepens_row : (Thing Thing' : List ℕ → Type 0) (skip skip' : Skip) → Skips Thing skip → Skips Thing' skip' → Deepens Thing skip Thing' skip' → Begins Thing' []
    → (n : ℕ) → Deepens (IsRow Thing n) (skip_row skip n) (IsRow Thing' n) (skip_row skip' n)
unfolding skip_row
deepens_row Thing Thing' skip skip' s s' d some zero = deepens_flat (λ x. x ≡ []) Ok (λ bytes e. absurd cc)
deepens_row Thing Thing' skip skip' s s' d some (suc n) =
    deepens_pair Thing Thing' (IsRow Thing n) (IsRow Thing' n) skip skip' (skip_row skip n) (skip_row skip' n) s s' d
    (deepens_row Thing Thing' skip skip' s s' d some n) (row_example Thing' some n)

-- ---- things up to a break

row_wider : (Thing Thing' : List ℕ → Type 0) → ((x : List ℕ) → Thing x → Thing' x) → (n : ℕ) (x : List ℕ) → IsRow Thing n x → IsRow Thing' n x
row_wider Thing Thing' wider zero x row = row
row_wider Thing Thing' wider (suc n) x row =
    record { first = row.first; second = row.second; joined = row.joined; is_first = wider row.first row.is_first; is_second = row_wider Thing Thing' wider n row.second row.is_second }

-- the same as `TooDeep`, however many things there may be
record TooDeepInRow (Other : List ℕ → Type 0) (skip : Skip) (bytes : List ℕ) : Type 0 where
  front : List ℕ
  rest : List ℕ
  joined : bytes ≡ front ++ rest
  is_deep : (n : ℕ) → length front ≤ n → skip_to_break skip n front ≡ Err Deep
  begun : Begins (IsRowToBreak Other) front

module _ (Thing Thing' : List ℕ → Type 0) (skip skip' : Skip) (s : Skips Thing skip) (s' : Skips Thing' skip') (d : Deepens Thing skip Thing' skip')
    (plain : (x : List ℕ) → Thing x → StartsPlain x) (nothing : skip [] ≡ Err More) where
  break_bad : (n : ℕ) (bytes : List ℕ) → skip_to_break skip n bytes ≡ Err Bad → skip_to_break skip' n bytes ≡ Err Bad
  unfolding skip_to_break
  break_bad zero bytes e = absurd cc
  break_bad (suc n) [] e = absurd cc
  break_bad (suc n) (byte ∷ bytes) e =
      elim (chosen (eqb byte 255) (Ok bytes) (skip (byte ∷ bytes) >>= skip_to_break skip n) (Err Bad) e) [
        | inl (is_break, found) ↦ absurd cc
        | inr (no_break, more) ↦ elim (bind_err (skip (byte ∷ bytes)) (skip_to_break skip n) Bad more) [
          | inl f ↦ rw (no_break, d.bad (byte ∷ bytes) f) refl
          | inr then ↦
              let f = s.found (byte ∷ bytes) then.read then.is in
              let read : skip' (byte ∷ bytes) ≡ Ok then.read = ap skip' f.joined ∙ s'.again f.front then.read (d.wider f.front f.is) in
              rw (no_break, read) (break_bad n then.read then.then)
        ]
      ]

  -- the things begin with one that is too deep
  too_deep_first : (byte : ℕ) (bytes front rest : List ℕ) → byte ≢ 255 → byte ∷ bytes ≡ front ++ rest → skip front ≡ Err Deep
      → (n : ℕ) → length front ≤ n → skip_to_break skip n front ≡ Err Deep
  unfolding skip_to_break
  too_deep_first byte bytes [] rest no_break joined is n fits = absurd cc
  too_deep_first byte bytes (first ∷ front) rest no_break joined is zero fits = absurd (omega arith)
  too_deep_first byte bytes (first ∷ front) rest no_break joined is (suc n) fits =
      let same : byte ≡ first = cc in
      let no_break' : first ≢ 255 = λ e. no_break (same ∙ e) in
      rw (ne_eqb first 255 no_break', is) refl

  -- the things begin with one that isn't, and go on
  too_deep_later : (x front : List ℕ) → Thing x → ((n : ℕ) → length front ≤ n → skip_to_break skip n front ≡ Err Deep)
      → (n : ℕ) → length (x ++ front) ≤ n → skip_to_break skip n (x ++ front) ≡ Err Deep
  unfolding skip_to_break
  too_deep_later x front is deep zero fits =
      let start = plain x is in absurd (omega (arith, length-append x front, ap length start.joined))
  too_deep_later x front is deep (suc n) fits =
      let start = plain x is in
      let opened : x ++ front ≡ start.first ∷ (start.rest ++ front) = ap (λ (y : List ℕ). y ++ front) start.joined in
      let read : skip (start.first ∷ (start.rest ++ front)) ≡ Ok front = ap skip (sym opened) ∙ s.again x front is in
      let shorter : length front ≤ n = omega (arith, fits, length-append x front, ap length start.joined) in
      ap (skip_to_break skip (suc n)) opened ∙ rw (ne_eqb start.first 255 start.no_break, read) (deep n shorter)

  break_deep : (n : ℕ) (bytes : List ℕ) → skip_to_break skip n bytes ≡ Err Deep → TooDeepInRow Thing' skip bytes
  unfolding skip_to_break
  break_deep zero bytes e = absurd cc
  break_deep (suc n) [] e = absurd cc
  break_deep (suc n) (byte ∷ bytes) e =
      elim (chosen (eqb byte 255) (Ok bytes) (skip (byte ∷ bytes) >>= skip_to_break skip n) (Err Deep) e) [
        | inl (is_break, found) ↦ absurd cc
        | inr (no_break, more) ↦ elim (bind_err (skip (byte ∷ bytes)) (skip_to_break skip n) Deep more) [
          | inl f ↦ let t = d.deep (byte ∷ bytes) f in record {
            front = t.front;
            rest = t.rest;
            joined = t.joined;
            is_deep = too_deep_first byte bytes t.front t.rest (eqb-false byte 255 no_break) t.joined t.is_deep;
            begun = one_then_break Thing' t.front t.begun;
          }
          | inr then ↦
              let f = s.found (byte ∷ bytes) then.read then.is in
              let t = break_deep n then.read then.then in
              record {
                front = f.front ++ t.front;
                rest = t.rest;
                joined = f.joined ∙ ap (λ (x : List ℕ). f.front ++ x) t.joined ∙ sym (append_assoc f.front t.front t.rest);
                is_deep = too_deep_later f.front t.front f.is t.is_deep;
                begun = record {
                  missing = t.begun.missing;
                  are_bytes = t.begun.are_bytes;
                  is = subst (IsRowToBreak Thing') (sym (append_assoc f.front t.front t.begun.missing))
                      (one_more Thing' f.front (t.front ++ t.begun.missing) (d.wider f.front f.is) t.begun.is);
                };
              }
        ]
      ]

  pub deepens_to_break : Deepens (IsRowToBreak Thing) (λ bytes. skip_to_break skip (length bytes) bytes) (IsRowToBreak Thing') (λ bytes. skip_to_break skip' (length bytes) bytes)
  deepens_to_break = record {
    wider = λ x row. record { count = row.count; things = row.things; joined = row.joined; is_row = row_wider Thing Thing' d.wider row.count row.things row.is_row };
    bad = λ bytes e. break_bad (length bytes) bytes e;
    deep = λ bytes e. let t = break_deep (length bytes) bytes e in
        record { front = t.front; rest = t.rest; joined = t.joined; is_deep = t.is_deep (length t.front) (omega arith); begun = t.begun };
  }

-- ---- behind a first byte

argument_not_deep : (initial : ℕ) (bytes : List ℕ) → argument_at initial bytes ≡ Err Deep → ⊥
argument_not_deep initial bytes e =
    let n = argument_len (info_of initial) in
    elim (chosen (ltb (length bytes) n) (Err More) (cond (may_follow initial (take n bytes)) (Ok (head_of initial (take n bytes), drop n bytes)) (Err Bad)) (Err Deep) e) [
      | inl (short, read) ↦ absurd cc
      | inr (long, read) ↦ elim (chosen (may_follow initial (take n bytes)) (Ok (head_of initial (take n bytes), drop n bytes)) (Err Bad) (Err Deep) read) [
        | inl (follows, found) ↦ absurd cc
        | inr (wrong, found) ↦ absurd cc
      ]
    ]

module _ (Content Content' : Head → List ℕ → Type 0) (content content' : Head → Skip)
    (d : (head : Head) → Deepens (Content head) (content head) (Content' head) (content' head)) (initial : ℕ) (begins : may_begin initial ≡ true) where
  behind_bad : (bytes : List ℕ) → skip_behind content initial bytes ≡ Err Bad → skip_behind content' initial bytes ≡ Err Bad
  behind_bad bytes e =
      elim (bind_err (argument_at initial bytes) (λ read. content read.0 read.1) Bad e) [
        | inl refused ↦ ap (λ r. r >>= λ read. content' read.0 read.1) refused
        | inr then ↦ ap (λ r. r >>= λ read. content' read.0 read.1) then.is ∙ (d then.read.0).bad then.read.1 then.then
      ]

  behind_deep : (bytes : List ℕ) → skip_behind content initial bytes ≡ Err Deep → TooDeep (IsBehind Content' initial) (skip_behind content initial) bytes
  behind_deep bytes e =
      elim (bind_err (argument_at initial bytes) (λ read. content read.0 read.1) Deep e) [
        | inl never ↦ absurd (argument_not_deep initial bytes never)
        | inr then ↦
            let a = argument_found initial bytes then.read.0 then.read.1 begins then.is in
            let t = (d then.read.0).deep then.read.1 then.then in
            record {
              front = a.front ++ t.front;
              rest = t.rest;
              joined = a.joined ∙ ap (λ (x : List ℕ). a.front ++ x) t.joined ∙ sym (append_assoc a.front t.front t.rest);
              is_deep = ap (λ r. r >>= λ read. content read.0 read.1) (argument_reads initial a.front then.read.0 a.is t.front) ∙ t.is_deep;
              begun = record {
                missing = t.begun.missing;
                are_bytes = t.begun.are_bytes;
                is = record {
                  head = then.read.0;
                  argument = a.front;
                  content = t.front ++ t.begun.missing;
                  joined = append_assoc a.front t.front t.begun.missing;
                  is_head = a.is;
                  is_content = t.begun.is;
                };
              };
            }
      ]

  pub deepens_behind : Deepens (IsBehind Content initial) (skip_behind content initial) (IsBehind Content' initial) (skip_behind content' initial)
  deepens_behind = record {
    wider = λ x b. record {
      head = b.head;
      argument = b.argument;
      content = b.content;
      joined = b.joined;
      is_head = b.is_head;
      is_content = (d b.head).wider b.content b.is_content;
    };
    bad = behind_bad;
    deep = behind_deep;
  }

module _ (passes : ℕ → Bool) (Behind Behind' : ℕ → List ℕ → Type 0) (behind behind' : ℕ → Skip)
    (d : (first : ℕ) → passes first ≡ true → Deepens (Behind first) (behind first) (Behind' first) (behind' first)) where
  led_bad : (bytes : List ℕ) → skip_led passes behind bytes ≡ Err Bad → skip_led passes behind' bytes ≡ Err Bad
  led_bad [] e = absurd cc
  led_bad (first ∷ bytes) e =
      elim (chosen (passes first) (behind first bytes) (Err Bad) (Err Bad) e) [
        | inl (passed, read) ↦ rw passed ((d first passed).bad bytes read)
        | inr (refused, read) ↦ rw refused refl
      ]

  led_deep : (bytes : List ℕ) → skip_led passes behind bytes ≡ Err Deep → TooDeep (IsLed passes Behind') (skip_led passes behind) bytes
  led_deep [] e = absurd cc
  led_deep (first ∷ bytes) e =
      elim (chosen (passes first) (behind first bytes) (Err Bad) (Err Deep) e) [
        | inl (passed, read) ↦ let t = (d first passed).deep bytes read in record {
          front = first ∷ t.front;
          rest = t.rest;
          joined = ap (λ (x : List ℕ). first ∷ x) t.joined;
          is_deep = rw passed t.is_deep;
          begun = record {
            missing = t.begun.missing;
            are_bytes = t.begun.are_bytes;
            is = record { first = first; behind = t.front ++ t.begun.missing; joined = refl; passed = passed; is = t.begun.is };
          };
        }
        | inr (refused, read) ↦ absurd cc
      ]

  pub deepens_led : Deepens (IsLed passes Behind) (skip_led passes behind) (IsLed passes Behind') (skip_led passes behind')
  deepens_led = record {
    wider = λ x led. record { first = led.first; behind = led.behind; joined = led.joined; passed = led.passed; is = (d led.first led.passed).wider led.behind led.is };
    bad = led_bad;
    deep = led_deep;
  }
