-- Readers: what is read stands at the front of the bytes, and what stands there is read, whatever follows it.
use Rattle.std.proofs.Common.{◌≡◌, ℕ, Bool, true, false, cond, eqb, not, ◌&&◌, List, [], ◌∷◌, ◌++◌, length, take, drop, Option, Some, None, refl, sym, ap, subst, ◌∙◌}
use Rattle.std.proofs.lemmas.Bool.{eqb-true, eq-eqb, and_parts, and_from, not-true}
use Rattle.std.proofs.lemmas.List.{nil_from_length, take-append-drop, drop_at}
use Rattle.cbor_items.specs.declared.head.Head.{Head}
use Rattle.cbor_items.specs.Head.{major_of, IsHead, head_at}
use Rattle.cbor_items.specs.Definite.{IsDefinite, IsNumber}
use Rattle.cbor_items.specs.Front.{Reader, ◌>>=◌, whole, any_head_at, definite_at, number_at}
use Rattle.cbor_items.proofs.Skips.{HasFront, StartsPlain}
use Rattle.cbor_items.proofs.Heads.{head_again, head_stands, size_of_head}

-- A reader reads things, and nothing else.
pub record Reads {X : Type 0} (Thing : X → List ℕ → Type 0) (read : Reader X) : Type 0 where
  pub found : (bytes : List ℕ) (x : X) (rest : List ℕ) → read bytes ≡ Some (x, rest) → HasFront (Thing x) bytes rest
  pub again : (x : X) (front rest : List ℕ) → Thing x front → read (front ++ rest) ≡ Some (x, rest)

-- ---- one reading behind another

pub bind_some : {A B : Type 0} (r : Option A) (f : A → Option B) (y : B) → (r >>= f) ≡ Some y → (x : A) × (r ≡ Some x) × (f x ≡ Some y)
bind_some (Some x) f y e = (x, refl, e)
bind_some None f y e = absurd cc

-- a test that did not fail
pub guard_some : {A : Type 0} (b : Bool) (x y : A) → cond b (Some x) None ≡ Some y → (b ≡ true) × (x ≡ y)
guard_some true x y e = (refl, cc)
guard_some false x y e = absurd cc

abbrev some : {A : Type 0} → A → Option A
some x = Some x

pub some_is : {A : Type 0} (x y : A) → some x ≡ some y → x ≡ y
some_is x y e = cc

-- ---- readings of all of the bytes

pub whole_found : {A : Type 0} (read : Option (A × List ℕ)) (x : A) → whole read ≡ Some x → read ≡ Some (x, [])
whole_found None x e = absurd cc
whole_found {A} (Some read) x e =
    let g = guard_some (eqb (length read.1) 0) read.0 x e in
    let none : read.1 ≡ [] = nil_from_length read.1 (eqb-true _ _ g.0) in
    ap (λ (y : A). Some (y, read.1)) g.1 ∙ ap (λ (y : List ℕ). Some (x, y)) none

pub whole_again : {A : Type 0} (read : Option (A × List ℕ)) (x : A) → read ≡ Some (x, []) → whole read ≡ Some x
whole_again read x e = rw e refl

-- ---- heads

pub reads_any_head : Reads IsHead any_head_at
reads_any_head = record {
  found = λ bytes head rest e.
      let b = bind_some (head_at bytes) (λ h. Some (h, drop h.size bytes)) (head, rest) e in
      let made : Head × List ℕ = (b.0, drop b.0.size bytes) in
      let stands : HasFront (IsHead b.0) bytes (drop b.0.size bytes) = record {
        front = take b.0.size bytes;
        joined = sym (take-append-drop b.0.size bytes);
        is = head_stands bytes b.0 b.1;
      } in
      subst (λ (p : Head × List ℕ). HasFront (IsHead p.0) bytes p.1) (some_is made (head, rest) b.2) stands;
  again = λ head front rest is. rw (head_again head front rest is, drop_at front rest head.size (sym (size_of_head head front is))) refl;
}

pub reads_definite : (major : ℕ) → Reads (IsDefinite major) (definite_at major)
unfolding definite_at
reads_definite major = record {
  found = λ bytes value rest e.
      let b = bind_some (any_head_at bytes) (λ (read : Head × List ℕ). cond (eqb read.0.major major && not read.0.indefinite) (Some (read.0.value, read.1)) None) (value, rest) e in
      let made : ℕ × List ℕ = (b.0.0.value, b.0.1) in
      let g = guard_some (eqb b.0.0.major major && not b.0.0.indefinite) made (value, rest) b.2 in
      let parts = and_parts (eqb b.0.0.major major) (not b.0.0.indefinite) g.0 in
      let h = reads_any_head.found bytes b.0.0 b.0.1 b.1 in
      let stands : HasFront (IsDefinite major b.0.0.value) bytes b.0.1 = record {
        front = h.front;
        joined = h.joined;
        is = record { head = b.0.0; is_head = h.is; is_major = eqb-true _ _ parts.0; definite = not-true _ parts.1; is_value = refl };
      } in
      subst (λ (p : ℕ × List ℕ). HasFront (IsDefinite major p.0) bytes p.1) g.1 stands;
  again = λ value front rest d.
      let guard : (eqb d.head.major major && not d.head.indefinite) ≡ true = and_from _ _ (eq-eqb _ _ d.is_major) (ap not d.definite) in
      rw (reads_any_head.again d.head front rest d.is_head, guard, d.is_value) refl;
}

pub reads_number : Reads IsNumber number_at
reads_number = reads_definite 0

-- ---- initial bytes

-- the initial byte tells the major type
pub record Starts (major : ℕ) (bytes : List ℕ) : Type 0 where
  pub first : ℕ
  pub rest : List ℕ
  pub joined : bytes ≡ first ∷ rest
  pub is_major : major_of first ≡ major

pub definite_starts : (major value : ℕ) (bytes : List ℕ) → IsDefinite major value bytes → Starts major bytes
definite_starts major value bytes d = record {
  first = d.is_head.initial;
  rest = d.is_head.argument;
  joined = d.is_head.joined;
  is_major = sym (ap (λ (h : Head). h.major) d.is_head.is) ∙ d.is_major;
}

pub number_is_plain : (n : ℕ) (bytes : List ℕ) → IsNumber n bytes → StartsPlain bytes
number_is_plain n bytes d =
    let s = definite_starts 0 n bytes d in
    record { first = s.first; rest = s.rest; joined = s.joined; no_break = λ is. let seven : major_of 255 ≡ 0 = ap major_of (sym is) ∙ s.is_major in absurd cc }
