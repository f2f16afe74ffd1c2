-- Passing over things and the grammar of things: what is passed over is a thing, a thing is passed over again
-- whatever follows it, where bytes are missing some complete a thing, and every other stop stays a stop.
use Rattle.std.proofs.Common.{◌≡◌, ◌≢◌, ℕ, zero, suc, ◌≤◌, ◌<◌, Bool, true, false, cond, eqb, MatchBool, ◌⊎◌, List, [], ◌∷◌, ◌++◌, length, Result, Ok, Err, refl, sym, ap, subst, ◌∙◌, append_assoc, arith, inl, inr, lit<}
use Rattle.std.proofs.lemmas.Bool.{eqb-true, ne_eqb}
use Rattle.std.proofs.lemmas.List.{length-append}
use Rattle.std.proofs.lemmas.List.Elements.{All-nil, All-cons, All-append}
use Rattle.cbor_items.specs.declared.stop.Stop.{Stop}
use Rattle.cbor_items.specs.declared.stop.Stop.TheVariants.{More, Bad}
use Rattle.cbor_items.specs.Reading.{◌>>=◌}
use Rattle.cbor_items.specs.Item.{AreBytes, Begins, IsPair, IsRow, IsRowToBreak}
use Rattle.cbor_items.specs.Scan.{Skip, skip_pair, skip_row, skip_to_break}

pub AreBytes-nil : AreBytes []
AreBytes-nil = All-nil (λ byte. byte < 256)

pub AreBytes-append : (xs ys : List ℕ) → AreBytes xs → AreBytes ys → AreBytes (xs ++ ys)
AreBytes-append xs ys = All-append (λ byte. byte < 256) xs ys

-- the bytes begin with a thing
pub record HasFront (Thing : List ℕ → Type 0) (bytes rest : List ℕ) : Type 0 where
  pub front : List ℕ
  pub joined : bytes ≡ front ++ rest
  pub is : Thing front

-- A skip passes over things, and over nothing else.
pub record Skips (Thing : List ℕ → Type 0) (skip : Skip) : Type 0 where
  pub found : (bytes rest : List ℕ) → skip bytes ≡ Ok rest → HasFront Thing bytes rest
  pub again : (front rest : List ℕ) → Thing front → skip (front ++ rest) ≡ Ok rest
  pub more : (bytes : List ℕ) → skip bytes ≡ Err More → Begins Thing bytes
  pub stays : (bytes after : List ℕ) (stop : Stop) → stop ≢ More → skip bytes ≡ Err stop → skip (bytes ++ after) ≡ Err stop

-- ---- reading one thing behind another

pub bind_ok : {A B : Type 0} (r : Result A Stop) (f : A → Result B Stop) (y : B) → (r >>= f) ≡ Ok y → (x : A) × (r ≡ Ok x) × (f x ≡ Ok y)
bind_ok (Ok x) f y e = (x, refl, e)
bind_ok (Err stop) f y e = absurd cc

pub record Stops {A B : Type 0} (r : Result A Stop) (f : A → Result B Stop) (stop : Stop) : Type 0 where
  pub read : A
  pub is : r ≡ Ok read
  pub then : f read ≡ Err stop

pub bind_err : {A B : Type 0} (r : Result A Stop) (f : A → Result B Stop) (stop : Stop) → (r >>= f) ≡ Err stop → (r ≡ Err stop) ⊎ Stops r f stop
bind_err (Ok x) f stop e = inr (record { read = x; is = refl; then = e })
bind_err (Err s) f stop e = inl cc

module _ (First Second : List ℕ → Type 0) (first second : Skip) (one : Skips First first) (two : Skips Second second) (some : Begins Second []) where
  pair_found : (bytes rest : List ℕ) → skip_pair first second bytes ≡ Ok rest → HasFront (IsPair First Second) bytes rest
  pair_found bytes rest e =
      let b = bind_ok (first bytes) second rest e in
      let f = one.found bytes b.0 b.1 in
      let s = two.found b.0 rest b.2 in
      record {
        front = f.front ++ s.front;
        joined = f.joined ∙ ap (λ (x : List ℕ). f.front ++ x) s.joined ∙ sym (append_assoc f.front s.front rest);
        is = record { first = f.front; second = s.front; joined = refl; is_first = f.is; is_second = s.is };
      }

  pair_again : (front rest : List ℕ) → IsPair First Second front → skip_pair first second (front ++ rest) ≡ Ok rest
  pair_again front rest p =
      let regrouped : front ++ rest ≡ p.first ++ (p.second ++ rest) = ap (λ (x : List ℕ). x ++ rest) p.joined ∙ append_assoc p.first p.second rest in
      ap (skip_pair first second) regrouped ∙ ap (λ r. r >>= second) (one.again p.first (p.second ++ rest) p.is_first) ∙ two.again p.second rest p.is_second

  pair_more : (bytes : List ℕ) → skip_pair first second bytes ≡ Err More → Begins (IsPair First Second) bytes
  pair_more bytes e =
      elim (bind_err (first bytes) second More e) [
        | inl f ↦ let b = one.more bytes f in record {
          missing = b.missing ++ some.missing;
          are_bytes = AreBytes-append b.missing some.missing b.are_bytes some.are_bytes;
          is = record { first = bytes ++ b.missing; second = some.missing; joined = sym (append_assoc bytes b.missing some.missing); is_first = b.is; is_second = some.is };
        }
        | inr s ↦ let f = one.found bytes s.read s.is in let b = two.more s.read s.then in record {
          missing = b.missing;
          are_bytes = b.are_bytes;
          is = record { first = f.front; second = s.read ++ b.missing; joined = ap (λ (x : List ℕ). x ++ b.missing) f.joined ∙ append_assoc f.front s.read b.missing; is_first = f.is; is_second = b.is };
        }
      ]

  pair_stays : (bytes after : List ℕ) (stop : Stop) → stop ≢ More → skip_pair first second bytes ≡ Err stop → skip_pair first second (bytes ++ after) ≡ Err stop
  pair_stays bytes after stop known e =
      elim (bind_err (first bytes) second stop e) [
        | inl f ↦ ap (λ r. r >>= second) (one.stays bytes after stop known f)
        | inr s ↦ let f = one.found bytes s.read s.is in
            let regrouped : bytes ++ after ≡ f.front ++ (s.read ++ after) = ap (λ (x : List ℕ). x ++ after) f.joined ∙ append_assoc f.front s.read after in
            ap (skip_pair first second) regrouped ∙ ap (λ r. r >>= second) (one.again f.front (s.read ++ after) f.is) ∙ two.stays s.read after stop known s.then
      ]

  pub skips_pair : Skips (IsPair First Second) (skip_pair first second)
  skips_pair = record { found = pair_found; again = pair_again; more = pair_more; stays = pair_stays }

-- ---- the same skip, or the same grammar, in other words

pub skips_same : {Thing Other : List ℕ → Type 0} {skip : Skip} → ((x : List ℕ) → Thing x → Other x) → ((x : List ℕ) → Other x → Thing x) → Skips Thing skip → Skips Other skip
skips_same to back s = record {
  found = λ bytes rest e. let f = s.found bytes rest e in record { front = f.front; joined = f.joined; is = to f.front f.is };
  again = λ front rest o. s.again front rest (back front o);
  more = λ bytes e. let b = s.more bytes e in record { missing = b.missing; are_bytes = b.are_bytes; is = to (bytes ++ b.missing) b.is };
  stays = s.stays;
}

pub skips_cond : {Thing Other : List ℕ → Type 0} {skip other : Skip} (b : Bool) → (b ≡ true → Skips Thing skip) → (b ≡ false → Skips Other other)
    → Skips (λ x. MatchBool b (Thing x) (Other x)) (λ x. cond b (skip x) (other x))
skips_cond true s o = s refl
skips_cond false s o = o refl

pub example_cond : {Thing Other : List ℕ → Type 0} (b : Bool) → (b ≡ true → Begins Thing []) → (b ≡ false → Begins Other [])
    → Begins (λ x. MatchBool b (Thing x) (Other x)) []
example_cond true s o = s refl
example_cond false s o = o refl

-- ---- nothing, and what is refused

pub skips_nothing : Skips (λ x. x ≡ []) Ok
skips_nothing = record {
  found = λ bytes rest e. record { front = []; joined = cc; is = refl };
  again = λ front rest e. ap (λ (x : List ℕ). Ok (x ++ rest)) e;
  more = λ bytes e. absurd cc;
  stays = λ bytes after stop known e. absurd cc;
}

pub skips_never : (stop : Stop) → stop ≢ More → Skips (λ x. ⊥) (λ x. Err stop)
skips_never stop known = record {
  found = λ bytes rest e. absurd cc;
  again = λ front rest never. absurd never;
  more = λ bytes e. absurd (known cc);
  stays = λ bytes after other known' e. e;
}

-- ---- so many things

pub row_example : (Thing : List ℕ → Type 0) → Begins Thing [] → (n : ℕ) → Begins (IsRow Thing n) []
row_example Thing some zero = record { missing = []; are_bytes = AreBytes-nil; is = refl }
row_example Thing some (suc n) =
    let others = row_example Thing some n in
    record {
      missing = some.missing ++ others.missing;
      are_bytes = AreBytes-append some.missing others.missing some.are_bytes others.are_bytes;
      is = record { first = some.missing; second = others.missing; joined = refl; is_first = some.is; is_second = others.is };
    }

pub skips_row : (Thing : List ℕ → Type 0) (skip : Skip) → Skips Thing skip → Begins Thing [] → (n : ℕ) → Skips (IsRow Thing n) (skip_row skip n)
unfolding skip_row
skips_row Thing skip s some zero = skips_nothing
skips_row Thing skip s some (suc n) = skips_pair Thing (IsRow Thing n) skip (skip_row skip n) s (skips_row Thing skip s some n) (row_example Thing some n)

-- ---- things up to a break

-- the bytes begin with something that is no break
pub record StartsPlain (bytes : List ℕ) : Type 0 where
  pub first : ℕ
  pub rest : List ℕ
  pub joined : bytes ≡ first ∷ rest
  pub no_break : first ≢ 255

-- which way a test went
pub chosen : {A : Type 0} (b : Bool) (x y z : A) → cond b x y ≡ z → ((b ≡ true) × (x ≡ z)) ⊎ ((b ≡ false) × (y ≡ z))
chosen true x y z e = inl (refl, e)
chosen false x y z e = inr (refl, e)

ok_is : (x y : List ℕ) → ◌≡◌ {A = Result (List ℕ) Stop} (Ok x) (Ok y) → x ≡ y
ok_is x y e = cc

only_break : (Thing : List ℕ → Type 0) → IsRowToBreak Thing (255 ∷ [])
only_break Thing = record { count = 0; things = []; joined = refl; is_row = refl }

break_is_byte : AreBytes (255 ∷ [])
break_is_byte = All-cons (λ byte. byte < 256) 255 [] (lit< tt) AreBytes-nil

pub break_alone : (Thing : List ℕ → Type 0) → Begins (IsRowToBreak Thing) []
break_alone Thing = record { missing = 255 ∷ []; are_bytes = break_is_byte; is = only_break Thing }

pub one_more : (Thing : List ℕ → Type 0) (x rest : List ℕ) → Thing x → IsRowToBreak Thing rest → IsRowToBreak Thing (x ++ rest)
one_more Thing x rest is row = record {
  count = suc row.count;
  things = x ++ row.things;
  joined = ap (λ (y : List ℕ). x ++ y) row.joined ∙ sym (append_assoc x row.things (255 ∷ []));
  is_row = record { first = x; second = row.things; joined = refl; is_first = is; is_second = row.is_row };
}

pub one_then_break : (Thing : List ℕ → Type 0) (bytes : List ℕ) → Begins Thing bytes → Begins (IsRowToBreak Thing) bytes
one_then_break Thing bytes b = record {
  missing = b.missing ++ 255 ∷ [];
  are_bytes = AreBytes-append b.missing (255 ∷ []) b.are_bytes break_is_byte;
  is = subst (IsRowToBreak Thing) (append_assoc bytes b.missing (255 ∷ [])) (one_more Thing (bytes ++ b.missing) (255 ∷ []) b.is (only_break Thing));
}

module _ (Thing : List ℕ → Type 0) (skip : Skip) (s : Skips Thing skip) (plain : (x : List ℕ) → Thing x → StartsPlain x) where
  break_found : (n : ℕ) (bytes rest : List ℕ) → skip_to_break skip n bytes ≡ Ok rest → HasFront (IsRowToBreak Thing) bytes rest
  unfolding skip_to_break
  break_found zero bytes rest e = absurd cc
  break_found (suc n) [] rest e = absurd cc
  break_found (suc n) (byte ∷ bytes) rest e =
      elim (chosen (eqb byte 255) (Ok bytes) (skip (byte ∷ bytes) >>= skip_to_break skip n) (Ok rest) e) [
        | inl (is_break, stop) ↦ record {
          front = 255 ∷ [];
          joined = ap (λ (b : ℕ). b ∷ bytes) (eqb-true byte 255 is_break) ∙ ap (λ (x : List ℕ). 255 ∷ x) (ok_is bytes rest stop);
          is = only_break Thing;
        }
        | inr (no_break, more) ↦
            let b = bind_ok (skip (byte ∷ bytes)) (skip_to_break skip n) rest more in
            let f = s.found (byte ∷ bytes) b.0 b.1 in
            let others = break_found n b.0 rest b.2 in
            record {
              front = f.front ++ others.front;
              joined = f.joined ∙ ap (λ (x : List ℕ). f.front ++ x) others.joined ∙ sym (append_assoc f.front others.front rest);
              is = one_more Thing f.front others.front f.is others.is;
            }
      ]

  break_again : (n count : ℕ) (things rest : List ℕ) → IsRow Thing count things → length (things ++ 255 ∷ rest) ≤ n
      → skip_to_break skip n (things ++ 255 ∷ rest) ≡ Ok rest
  unfolding skip_to_break
  break_again zero count things rest row fits = absurd (omega (arith, length-append things (255 ∷ rest)))
  break_again (suc n) zero things rest row fits = rw row refl
  break_again (suc n) (suc count) things rest row fits =
      let start = plain row.first row.is_first in
      let others = row.second ++ 255 ∷ rest in
      let regrouped : things ++ 255 ∷ rest ≡ row.first ++ others = ap (λ (x : List ℕ). x ++ 255 ∷ rest) row.joined ∙ append_assoc row.first row.second (255 ∷ rest) in
      let opened : row.first ++ others ≡ start.first ∷ (start.rest ++ others) = ap (λ (x : List ℕ). x ++ others) start.joined in
      let read : skip (start.first ∷ (start.rest ++ others)) ≡ Ok others = ap skip (sym opened) ∙ s.again row.first others row.is_first in
      let shorter : length others ≤ n = omega (arith, fits, ap length regrouped, length-append row.first others, ap length start.joined) in
      let one : skip_to_break skip (suc n) (start.first ∷ (start.rest ++ others)) ≡ Ok rest = rw (ne_eqb start.first 255 start.no_break, read) (break_again n count row.second rest row.is_second shorter) in
      ap (skip_to_break skip (suc n)) (regrouped ∙ opened) ∙ one

  break_more : (n : ℕ) (bytes : List ℕ) → length bytes ≤ n → skip_to_break skip n bytes ≡ Err More → Begins (IsRowToBreak Thing) bytes
  unfolding skip_to_break
  break_more zero [] fits e = break_alone Thing
  break_more zero (byte ∷ bytes) fits e = absurd (omega arith)
  break_more (suc n) [] fits e = break_alone Thing
  break_more (suc n) (byte ∷ bytes) fits e =
      elim (chosen (eqb byte 255) (Ok bytes) (skip (byte ∷ bytes) >>= skip_to_break skip n) (Err More) e) [
        | inl (is_break, stop) ↦ absurd cc
        | inr (no_break, more) ↦ elim (bind_err (skip (byte ∷ bytes)) (skip_to_break skip n) More more) [
          | inl f ↦ one_then_break Thing (byte ∷ bytes) (s.more (byte ∷ bytes) f)
          | inr then ↦
              let f = s.found (byte ∷ bytes) then.read then.is in
              let start = plain f.front f.is in
              let shorter : length then.read ≤ n = omega (arith, fits, ap length f.joined, length-append f.front then.read, ap length start.joined) in
              let b = break_more n then.read shorter then.then in
              let regrouped : (byte ∷ bytes) ++ b.missing ≡ f.front ++ (then.read ++ b.missing) = ap (λ (x : List ℕ). x ++ b.missing) f.joined ∙ append_assoc f.front then.read b.missing in
              record { missing = b.missing; are_bytes = b.are_bytes; is = subst (IsRowToBreak Thing) (sym regrouped) (one_more Thing f.front (then.read ++ b.missing) f.is b.is) }
        ]
      ]

  break_stays : (n m : ℕ) (bytes after : List ℕ) (stop : Stop) → n ≤ m → stop ≢ More → skip_to_break skip n bytes ≡ Err stop
      → skip_to_break skip m (bytes ++ after) ≡ Err stop
  unfolding skip_to_break
  break_stays zero m bytes after stop fits known e = absurd (known cc)
  break_stays (suc n) m [] after stop fits known e = absurd (known cc)
  break_stays (suc n) zero (byte ∷ bytes) after stop fits known e = absurd (omega arith)
  break_stays (suc n) (suc m) (byte ∷ bytes) after stop fits known e =
      elim (chosen (eqb byte 255) (Ok bytes) (skip (byte ∷ bytes) >>= skip_to_break skip n) (Err stop) e) [
        | inl (is_break, found) ↦ absurd cc
        | inr (no_break, more) ↦ elim (bind_err (skip (byte ∷ bytes)) (skip_to_break skip n) stop more) [
          | inl f ↦ rw (no_break, s.stays (byte ∷ bytes) after stop known f) refl
          | inr then ↦
              let f = s.found (byte ∷ bytes) then.read then.is in
              let regrouped : byte ∷ (bytes ++ after) ≡ f.front ++ (then.read ++ after) = ap (λ (x : List ℕ). x ++ after) f.joined ∙ append_assoc f.front then.read after in
              let read : skip (byte ∷ (bytes ++ after)) ≡ Ok (then.read ++ after) = ap skip regrouped ∙ s.again f.front (then.read ++ after) f.is in
              rw (no_break, read) (break_stays n m then.read after stop (omega arith) known then.then)
        ]
      ]

  pub skips_to_break : Skips (IsRowToBreak Thing) (λ bytes. skip_to_break skip (length bytes) bytes)
  skips_to_break = record {
    found = λ bytes rest e. break_found (length bytes) bytes rest e;
    again = λ front rest row.
        let regrouped : front ++ rest ≡ row.things ++ 255 ∷ rest = ap (λ (x : List ℕ). x ++ rest) row.joined ∙ append_assoc row.things (255 ∷ []) rest in
        ap (λ (x : List ℕ). skip_to_break skip (length x) x) regrouped ∙ break_again (length (row.things ++ 255 ∷ rest)) row.count row.things rest row.is_row (omega arith);
    more = λ bytes e. break_more (length bytes) bytes (omega arith) e;
    stays = λ bytes after stop known e. break_stays (length bytes) (length (bytes ++ after)) bytes after stop (omega (arith, length-append bytes after)) known e;
  }

-- ---- by the first byte

pub skips_equal : {Thing : List ℕ → Type 0} {skip : Skip} (other : Skip) → ((x : List ℕ) → other x ≡ skip x) → Skips Thing skip → Skips Thing other
skips_equal other same s = record {
  found = λ bytes rest e. s.found bytes rest (sym (same bytes) ∙ e);
  again = λ front rest is. same (front ++ rest) ∙ s.again front rest is;
  more = λ bytes e. s.more bytes (sym (same bytes) ∙ e);
  stays = λ bytes after stop known e. same (bytes ++ after) ∙ s.stays bytes after stop known (sym (same bytes) ∙ e);
}

-- a first byte that passes a test, and what stands behind it
pub record IsLed (passes : ℕ → Bool) (Behind : ℕ → List ℕ → Type 0) (bytes : List ℕ) : Type 0 where
  pub first : ℕ
  pub behind : List ℕ
  pub joined : bytes ≡ first ∷ behind
  pub passed : passes first ≡ true
  pub is : Behind first behind

abbrev pub skip_led : (ℕ → Bool) → (ℕ → Skip) → Skip
skip_led passes behind [] = Err More
skip_led passes behind (first ∷ rest) = cond (passes first) (behind first rest) (Err Bad)

module _ (passes : ℕ → Bool) (Behind : ℕ → List ℕ → Type 0) (behind : ℕ → Skip)
    (skips : (first : ℕ) → passes first ≡ true → Skips (Behind first) (behind first)) (some : Begins (IsLed passes Behind) []) where
  led_found : (bytes rest : List ℕ) → skip_led passes behind bytes ≡ Ok rest → HasFront (IsLed passes Behind) bytes rest
  led_found [] rest e = absurd cc
  led_found (first ∷ bytes) rest e =
      elim (chosen (passes first) (behind first bytes) (Err Bad) (Ok rest) e) [
        | inl (passed, read) ↦ let f = (skips first passed).found bytes rest read in record {
          front = first ∷ f.front;
          joined = ap (λ (x : List ℕ). first ∷ x) f.joined;
          is = record { first = first; behind = f.front; joined = refl; passed = passed; is = f.is };
        }
        | inr (refused, read) ↦ absurd cc
      ]

  led_again : (front rest : List ℕ) → IsLed passes Behind front → skip_led passes behind (front ++ rest) ≡ Ok rest
  led_again front rest led =
      ap (λ (x : List ℕ). skip_led passes behind (x ++ rest)) led.joined
      ∙ rw led.passed ((skips led.first led.passed).again led.behind rest led.is)

  led_more : (bytes : List ℕ) → skip_led passes behind bytes ≡ Err More → Begins (IsLed passes Behind) bytes
  led_more [] e = some
  led_more (first ∷ bytes) e =
      elim (chosen (passes first) (behind first bytes) (Err Bad) (Err More) e) [
        | inl (passed, read) ↦ let b = (skips first passed).more bytes read in record {
          missing = b.missing;
          are_bytes = b.are_bytes;
          is = record { first = first; behind = bytes ++ b.missing; joined = refl; passed = passed; is = b.is };
        }
        | inr (refused, read) ↦ absurd cc
      ]

  led_stays : (bytes after : List ℕ) (stop : Stop) → stop ≢ More → skip_led passes behind bytes ≡ Err stop → skip_led passes behind (bytes ++ after) ≡ Err stop
  led_stays [] after stop known e = absurd (known cc)
  led_stays (first ∷ bytes) after stop known e =
      elim (chosen (passes first) (behind first bytes) (Err Bad) (Err stop) e) [
        | inl (passed, read) ↦ rw passed ((skips first passed).stays bytes after stop known read)
        | inr (refused, read) ↦ rw refused read
      ]

  pub skips_led : Skips (IsLed passes Behind) (skip_led passes behind)
  skips_led = record { found = led_found; again = led_again; more = led_more; stays = led_stays }
