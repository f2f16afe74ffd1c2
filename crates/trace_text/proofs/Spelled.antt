-- Each kind of word in an event line has one spelling.
use Rattle.std.proofs.Common.{◌≡◌, ℕ, ◌+◌, ◌^◌, ◌<◌, ◌≤◌, Bool, true, false, cond, leb, List, ◌∷◌, Option, Some, None, decimal, refl, sym, ap, ◌∙◌, arith}
use Rattle.std.specs.Prelude.{codes, bytes_eq, Ok}
use Rattle.std.proofs.lemmas.Bool.{leb-true, le-leb, cond-true, cond_both}
use Rattle.std.proofs.lemmas.Option.{same_Some}
use Rattle.std.proofs.lemmas.Slice.Eq.{bytes_eq-Decides}
use Rattle.hex.specs.Hex.{encode_lower}
use Rattle.net_base.specs.Number.{number_up_to}
use Rattle.trace_text.specs.declared.line.LineRefusal.{LineRefusal}
use Rattle.trace_text.specs.Addresses.{address_of, printed_address}
use Rattle.trace_text.specs.EventTexts.{IsKnownIn, outcome_word, sign_word}
use Rattle.trace_text.specs.Events.{outcome_of, sign_of, piece_of}
use Rattle.trace_text.specs.Reading.{from_least, next_read, this_word}
use Rattle.trace_text.specs.Words.{Unread}
use Rattle.trace_text.proofs.AddressLaws.{address_of_only, address_of-printed}
use Rattle.trace_text.proofs.Binds.{is_read}
use Rattle.trace_text.proofs.HexPieces.{IsPieceOfBytes, piece_only, piece_again}
use Rattle.trace_text.proofs.Numerals.{number_up_to-decimal, decimal-number_up_to}
use Rattle.trace_text.proofs.Spelling.{cond_same}

-- a value that fits is read from what is printed of it, and from no other word
pub record IsSpelled {A : Type 0} (read : List ℕ → Option A) (print : A → List ℕ) (Fits : A → Type 0) : Type 0 where
  pub only : (word : List ℕ) (a : A) → read word ≡ Some a → (word ≡ print a) × Fits a
  pub again : (a : A) → Fits a → read (print a) ≡ Some a

-- ---- words

pub same_bytes : (word text : List ℕ) → bytes_eq word text ≡ true → word ≡ text
same_bytes word text h = (bytes_eq-Decides word text).0 h

abbrev pub IsBetween : ℕ → ℕ → ℕ → Type 0
IsBetween least most n = (least ≤ n) × (n ≤ most)

number_only : (least most : ℕ) (word : List ℕ) (n : ℕ) (o : Option ℕ) → most < 2 ^ 64 → number_up_to most word ≡ o → from_least least o ≡ Some n →
    (word ≡ decimal n) × IsBetween least most n
number_only least most word n None fits e h = absurd cc
number_only least most word n (Some m) fits e h =
    let p = cond_same (leb least m) (Some m) n h in
    let same = same_Some m n p.1 in
    let q = decimal-number_up_to most word n (e ∙ p.1) fits in
    (q.0, (omega (arith, same, leb-true least m p.0), q.1))

number_again : (least most n : ℕ) → most < 2 ^ 64 → IsBetween least most n → from_least least (number_up_to most (decimal n)) ≡ Some n
number_again least most n fits h =
    ap (from_least least) (number_up_to-decimal most n h.1 fits) ∙ cond-true (leb least n) (Some n) None (le-leb least n h.0)

pub numbers : (least most : ℕ) → most < 2 ^ 64 → IsSpelled (λ word. from_least least (number_up_to most word)) decimal (IsBetween least most)
numbers least most fits = record {
  only = λ word n h. number_only least most word n (number_up_to most word) fits refl h;
  again = λ n h. number_again least most n fits h;
}

pub addresses : (version : ℕ) → IsSpelled (address_of version) printed_address (IsKnownIn version)
addresses version = record {
  only = λ word address h. let s = address_of_only version word address h in (s.printed, (s.fits, s.family));
  again = λ address h. address_of-printed version address h.0 h.1;
}

pub byte_pieces : IsSpelled piece_of encode_lower IsPieceOfBytes
byte_pieces = record { only = piece_only; again = piece_again }

abbrev pub Always : {A : Type 0} → A → Type 0
Always a = Unit {0}

-- one of two words
module _ (first second : List ℕ) (print : Bool → List ℕ) where
  abbrev pub read_either : List ℕ → Option Bool
  read_either word = cond (bytes_eq word first) (Some true) (cond (bytes_eq word second) (Some false) None)

  either_only : print true ≡ first → print false ≡ second → (word : List ℕ) (b : Bool) → read_either word ≡ Some b → (word ≡ print b) × Always b
  either_only f s word b h = cond_both (bytes_eq word first) (Some true) (cond (bytes_eq word second) (Some false) None) (λ o. o ≡ Some b → (word ≡ print b) × Always b)
      (λ e k. (same_bytes word first e ∙ sym f ∙ ap print (same_Some true b k), tt))
      (λ _ k. let p = cond_same (bytes_eq word second) (Some false) b k in (same_bytes word second p.0 ∙ sym s ∙ ap print (same_Some false b p.1), tt))
      h

pub outcomes : IsSpelled outcome_of outcome_word Always
outcomes = record {
  only = either_only (codes "ok") (codes "failed") outcome_word refl refl;
  again = outcome_again;
}
  where
    outcome_again : (b : Bool) → Always b → outcome_of (outcome_word b) ≡ Some b
    outcome_again true h = refl
    outcome_again false h = refl

pub signs : IsSpelled sign_of sign_word Always
signs = record {
  only = either_only (codes "+") (codes "-") sign_word refl refl;
  again = sign_again;
}
  where
    sign_again : (b : Bool) → Always b → sign_of (sign_word b) ≡ Some b
    sign_again true h = refl
    sign_again false h = refl

pub one_word : (text : List ℕ) → IsSpelled (this_word text) (λ begun. text) Always
one_word text = record {
  only = λ word begun h. (same_bytes word text (cond_same (bytes_eq word text) (Some tt) begun h).0, tt);
  again = λ begun h. cond-true (bytes_eq text text) (Some tt) None ((bytes_eq-Decides text text).1 refl);
}

-- ---- the next word of a line

module _ {A : Type 0} (read : List ℕ → Option A) (refused : ℕ → LineRefusal) (print : A → List ℕ) (Fits : A → Type 0) (spelled : IsSpelled read print Fits) where
  -- the first word is printed of a value that fits
  pub record IsNext (unread rest : Unread) (a : A) : Type 0 where
    pub words : unread.words ≡ print a ∷ rest.words
    pub fits : Fits a

  pub next_only : (unread rest : Unread) (a : A) → next_read read refused unread ≡ Ok (a, rest) → IsNext unread rest a
  next_only unread rest a h =
      let r = is_read read refused unread rest a h in
      let p = spelled.only r.word a r.value in
      record { words = r.words ∙ ap (λ (word : List ℕ). word ∷ rest.words) p.0; fits = p.1 }

  pub next_again : (words : List (List ℕ)) (place : ℕ) (a : A) → Fits a →
      next_read read refused (record { words = print a ∷ words; place = place }) ≡ Ok (a, record { words = words; place = place + 1 })
  next_again words place a h = rw (spelled.again a h) refl
