-- Addresses and groups that are read one after the other, behind those that were read before.
use Rattle.std.proofs.Common.{◌≡◌, ℕ, ◌+◌, true, false, List, [], ◌∷◌, ◌++◌, Option, Some, None, refl, sym, ap, ◌∙◌}
use Rattle.std.specs.Prelude.{Result, Ok, Err}
use Rattle.std.specs.Option.{ok_or}
use Rattle.std.proofs.lemmas.Bool.{true≢false}
use Rattle.std.proofs.lemmas.List.{append-nil, append_assoc}
use Rattle.net_base.specs.declared.address.Addr.{Addr}
use Rattle.trace_text.specs.declared.line.LineRefusal.{LineRefusal}
use Rattle.trace_text.specs.declared.line.LineRefusal.TheVariants.{BadWord}
use Rattle.trace_text.specs.Addresses.{address_of}
use Rattle.trace_text.specs.Events.{stops, addresses_from, next_addresses}
use Rattle.trace_text.specs.Reading.{◌>>=◌, next_address}
use Rattle.trace_text.specs.Words.{Unread}
use Rattle.trace_text.proofs.Binds.{ok_parts}

-- ---- addresses

-- addresses that were read, in front of what is read next
abbrev pub behind : List Addr → Result (List Addr × Unread) LineRefusal → Result (List Addr × Unread) LineRefusal
behind front (Ok read) = Ok (front ++ read.0, read.1)
behind front (Err refusal) = Err refusal

pub behind-none : (read : Result (List Addr × Unread) LineRefusal) → behind [] read ≡ read
behind-none (Ok read) = refl
behind-none (Err refusal) = refl

behind-more : (front : List Addr) (a : Addr) (read : Result (List Addr × Unread) LineRefusal) →
    behind front (read >>= λ r. Ok (a ∷ r.0, r.1)) ≡ behind (front ++ a ∷ []) read
behind-more front a (Ok read) = ap (λ xs. Ok (xs, read.1)) (sym (append_assoc front (a ∷ []) read.0))
behind-more front a (Err refusal) = refl

pub addresses-end : (version : ℕ) (unread : Unread) (front : List Addr) → stops unread.words ≡ true →
    behind front (next_addresses version unread) ≡ Ok (front, unread)
unfolding addresses_from
addresses-end version unread front h = at unread.words unread.place h
  where
    at : (words : List (List ℕ)) (place : ℕ) → stops words ≡ true →
        behind front (addresses_from version place words) ≡ Ok (front, record { words = words; place = place })
    at [] place h = ap (λ xs. Ok (xs, _)) (append-nil front)
    at (word ∷ words) place h = rw h (ap (λ xs. Ok (xs, _)) (append-nil front))

abbrev given : Unread → Addr → Result (Addr × Unread) LineRefusal
given rest a = Ok (a, rest)

-- the next word is an address
taken : (o : Option Addr) (refusal : LineRefusal) (next rest : Unread) (a : Addr) →
    (ok_or o refusal >>= given next) ≡ Ok (a, rest) → (o ≡ Some a) × (next ≡ rest)
taken None refusal next rest a h = absurd cc
taken (Some b) refusal next rest a h = let parts = ok_parts (b, next) (a, rest) h in (ap Some parts.0, parts.1)

refused : (o : Option Addr) (first other : LineRefusal) (next : Unread) →
    (ok_or o first >>= given next) ≡ Err other → (o ≡ None) × (first ≡ other)
refused None first other next h = (refl, cc)
refused (Some b) first other next h = absurd cc

more_at : (version place : ℕ) (words : List (List ℕ)) (rest : Unread) (a : Addr) (front : List Addr) → stops words ≡ false →
    next_address version (record { words = words; place = place }) ≡ Ok (a, rest) →
    behind front (addresses_from version place words) ≡ behind (front ++ a ∷ []) (next_addresses version rest)
unfolding addresses_from
more_at version place [] rest a front h e = absurd (true≢false h)
more_at version place (word ∷ words) rest a front h e =
    let t = taken (address_of version word) (BadWord place) (record { words = words; place = place + 1 }) rest a e in
    let next : addresses_from version (place + 1) words ≡ next_addresses version rest = ap (next_addresses version) t.1 in
    rw (h, t.0) (behind-more front a (addresses_from version (place + 1) words) ∙ ap (behind (front ++ a ∷ [])) next)

pub addresses-more : (version : ℕ) (unread rest : Unread) (a : Addr) (front : List Addr) → stops unread.words ≡ false →
    next_address version unread ≡ Ok (a, rest) →
    behind front (next_addresses version unread) ≡ behind (front ++ a ∷ []) (next_addresses version rest)
addresses-more version unread rest a front h e = more_at version unread.place unread.words rest a front h e

refused_at : (version place : ℕ) (words : List (List ℕ)) (refusal : LineRefusal) (front : List Addr) → stops words ≡ false →
    next_address version (record { words = words; place = place }) ≡ Err refusal →
    behind front (addresses_from version place words) ≡ Err refusal
unfolding addresses_from
refused_at version place [] refusal front h e = absurd (true≢false h)
refused_at version place (word ∷ words) refusal front h e =
    let t = refused (address_of version word) (BadWord place) refusal (record { words = words; place = place + 1 }) e in
    rw (h, t.0) (ap Err t.1)

pub addresses-refused : (version : ℕ) (unread : Unread) (refusal : LineRefusal) (front : List Addr) → stops unread.words ≡ false →
    next_address version unread ≡ Err refusal →
    behind front (next_addresses version unread) ≡ Err refusal
addresses-refused version unread refusal front h e = refused_at version unread.place unread.words refusal front h e
