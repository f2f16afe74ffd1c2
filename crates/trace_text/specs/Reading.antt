-- Words that are read from the left, one after the other.
use Rattle.std.specs.Prelude.{ℕ, ◌+◌, nat_le, List, [], ◌∷◌, bytes_eq, if◌then◌else◌, Option, Some, None, Result, Ok, Err}
use Rattle.std.specs.Option.{ok_or}
use Rattle.net_base.specs.Number.{number_up_to}
use Rattle.net_base.specs.declared.address.Addr.{Addr}
use Rattle.trace_text.specs.declared.line.LineRefusal.{LineRefusal}
use Rattle.trace_text.specs.declared.line.LineRefusal.TheVariants.{BadWord, BadNumber}
use Rattle.trace_text.specs.Words.{Unread}
use Rattle.trace_text.specs.Addresses.{address_of}

-- the first refusal from the left decides
infixl 10 ◌>>=◌
abbrev pub ◌>>=◌ : {A B : Type 0} → Result A LineRefusal → (A → Result B LineRefusal) → Result B LineRefusal
Ok x >>= f = f x
Err refusal >>= f = Err refusal

abbrev pub first_word : ℕ → List (List ℕ) → Result (List ℕ × Unread) LineRefusal
first_word place [] = Err (BadWord place)
first_word place (word ∷ words) = Ok (word, record { words = words; place = place + 1 })

-- the next word, which must not be missing
abbrev pub next_word : Unread → Result (List ℕ × Unread) LineRefusal
next_word unread = first_word unread.place unread.words

-- a word that is read in some way, and else refused in some way at its place
abbrev pub next_read : {A : Type 0} → (List ℕ → Option A) → (ℕ → LineRefusal) → Unread → Result (A × Unread) LineRefusal
next_read read refused unread = do
  (word, rest) ← next_word unread
  value ← ok_or (read word) (refused unread.place)
  Ok (value, rest)

abbrev pub from_least : ℕ → Option ℕ → Option ℕ
from_least least None = None
from_least least (Some n) = if nat_le least n then Some n else None

-- a number in a range
abbrev pub next_number : ℕ → ℕ → Unread → Result (ℕ × Unread) LineRefusal
next_number least most unread = next_read (λ word. from_least least (number_up_to most word)) BadNumber unread

abbrev pub next_address : ℕ → Unread → Result (Addr × Unread) LineRefusal
next_address version unread = next_read (address_of version) BadWord unread

-- no word may follow
abbrev pub no_words : ℕ → List (List ℕ) → Result (Unit {0}) LineRefusal
no_words place [] = Ok tt
no_words place (word ∷ words) = Err (BadWord place)

abbrev pub no_more : Unread → Result (Unit {0}) LineRefusal
no_more unread = no_words unread.place unread.words

-- one word and no other
abbrev pub this_word : List ℕ → List ℕ → Option (Unit {0})
this_word text word = if bytes_eq word text then Some tt else None
