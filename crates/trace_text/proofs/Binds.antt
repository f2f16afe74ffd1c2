-- What is read one after the other, taken apart.
use Rattle.std.proofs.Common.{◌≡◌, ℕ, suc, ◌+◌, List, [], ◌∷◌, length, Option, Some, None, refl, sym, ap, ◌∙◌}
use Rattle.std.specs.Prelude.{Result, Ok, Err}
use Rattle.std.specs.Option.{ok_or}
use Rattle.trace_text.specs.declared.line.LineRefusal.{LineRefusal}
use Rattle.trace_text.specs.Reading.{◌>>=◌, next_read}
use Rattle.trace_text.specs.Words.{Unread}

-- the first gave a value, and the second gave this of it
pub record Bound {A B : Type 0} (first : Result A LineRefusal) (second : A → Result B LineRefusal) (b : B) : Type 0 where
  pub value : A
  pub before : first ≡ Ok value
  pub after : second value ≡ Ok b

pub bound : {A B : Type 0} (first : Result A LineRefusal) (second : A → Result B LineRefusal) (b : B) → (first >>= second) ≡ Ok b → Bound first second b
bound (Ok a) second b h = record { value = a; before = refl; after = h }
bound (Err refusal) second b h = absurd cc

-- of two values in one answer
pub ok_parts : {A B : Type 0} (p q : A × B) → ◌≡◌ {A = Result (A × B) LineRefusal} (Ok p) (Ok q) → (p.0 ≡ q.0) × (p.1 ≡ q.1)
ok_parts p q h = let e : p ≡ q = cc in (ap (λ x. x.0) e, ap (λ x. x.1) e)

module _ {A : Type 0} (read : List ℕ → Option A) (refused : ℕ → LineRefusal) where
  abbrev given : Unread → A → Result (A × Unread) LineRefusal
  given rest value = Ok (value, rest)

  -- a word was there, and reads so
  pub record IsRead (unread rest : Unread) (a : A) : Type 0 where
    pub word : List ℕ
    pub words : unread.words ≡ word ∷ rest.words
    pub place : rest.place ≡ unread.place + 1
    pub value : read word ≡ Some a

  read_at : (word : List ℕ) (words : List (List ℕ)) (place : ℕ) (rest : Unread) (a : A) (o : Option A) → read word ≡ o →
      (ok_or o (refused place) >>= given (record { words = words; place = place + 1 })) ≡ Ok (a, rest) →
      IsRead (record { words = word ∷ words; place = place }) rest a
  read_at word words place rest a None e h = absurd cc
  read_at word words place rest a (Some b) e h =
      let (same, behind) = ok_parts (b, record { words = words; place = place + 1 }) (a, rest) h in
      record { word = word; words = ap (λ r. word ∷ r.words) behind; place = ap (λ r. r.place) (sym behind); value = e ∙ ap Some same }

  is_read_at : (words : List (List ℕ)) (place : ℕ) (rest : Unread) (a : A) →
      next_read read refused (record { words = words; place = place }) ≡ Ok (a, rest) → IsRead (record { words = words; place = place }) rest a
  is_read_at [] place rest a h = absurd cc
  is_read_at (word ∷ words) place rest a h = read_at word words place rest a (read word) refl h

  pub is_read : (unread rest : Unread) (a : A) → next_read read refused unread ≡ Ok (a, rest) → IsRead unread rest a
  is_read unread rest a h = is_read_at unread.words unread.place rest a h

  pub read_shorter : (unread rest : Unread) (a : A) → next_read read refused unread ≡ Ok (a, rest) → length unread.words ≡ suc (length rest.words)
  read_shorter unread rest a h = let r = is_read unread rest a h in ap length r.words
