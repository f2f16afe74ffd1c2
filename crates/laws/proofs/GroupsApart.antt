-- Cleaned groups have no address twice.
use Rattle.std.proofs.Common.{◌≡◌, false, List, [], ◌∷◌, ◌++◌, ◌∙◌, sym, arith}
use Rattle.laws.proofs.Words.{or_parts, list_any-append}
use Rattle.laws.specs.Words.{AllByRecursion, same_address, Addr, Group, is_listed, first_places, cleaned_after, cleaned, members_of}
use Rattle.laws.specs.Steady.{AreApart}
use Rattle.laws.proofs.Each.{weaker}
use Rattle.laws.proofs.Lists.{all-appended}

-- none of some addresses is listed among others
abbrev pub NoneListed : List Addr → List Addr → Type 0
NoneListed before addrs = AllByRecursion (λ a. is_listed a before ≡ false) addrs

pub unlisted_append : (a : Addr) (before more : List Addr) → is_listed a (before ++ more) ≡ false → (is_listed a before ≡ false) × (is_listed a more ≡ false)
unlisted_append a before more h = or_parts (is_listed a before) (is_listed a more) (sym (list_any-append (same_address a) before more) ∙ h)

-- ---- one list

pub first_places-none : (before addrs : List Addr) → NoneListed before (first_places before addrs)
unfolding first_places
first_places-none before [] = tt
first_places-none before (a ∷ addrs) = search (arith, weaker, unlisted_append, first_places-none (before ++ a ∷ []) addrs, first_places-none before addrs)

first_places-apart : (before addrs : List Addr) → AreApart (first_places before addrs)
unfolding first_places
first_places-apart before [] = tt
first_places-apart before (a ∷ addrs) = search (arith, weaker, or_parts, unlisted_append, first_places-none, first_places-apart before addrs, first_places-apart (before ++ a ∷ []) addrs)

-- ---- all groups

pub cleaned-none : (before : List Addr) (groups : List Group) → NoneListed before (members_of (cleaned_after before groups))
unfolding cleaned_after
cleaned-none before [] = tt
cleaned-none before (g ∷ groups) =
    let here : List Addr = first_places before g.members in
    all-appended (λ x. is_listed x before ≡ false) here _ (first_places-none before g.members)
    (weaker _ (λ x h. (unlisted_append x before here h).0) (cleaned-none (before ++ here) groups))

pub append-apart : (xs ys : List Addr) → AreApart xs → AreApart ys → AllByRecursion (λ z. is_listed z xs ≡ false) ys → AreApart (xs ++ ys)
append-apart [] ys h k n = k
append-apart (x ∷ xs) ys h k n = search (arith, all-appended, weaker, or_parts, append-apart xs ys h.1 k (weaker ys (λ z none. (or_parts (same_address z x) (is_listed z xs) none).1) n))

cleaned_after-apart : (before : List Addr) (groups : List Group) → AreApart (members_of (cleaned_after before groups))
unfolding cleaned_after
cleaned_after-apart before [] = tt
cleaned_after-apart before (g ∷ groups) =
    let here : List Addr = first_places before g.members in
    append-apart here _ (first_places-apart before g.members) (cleaned_after-apart (before ++ here) groups)
    (weaker _ (λ x h. (unlisted_append x before here h).1) (cleaned-none (before ++ here) groups))

pub cleaned-apart : (own : Addr) (groups : List Group) → AreApart (members_of (cleaned own groups))
cleaned-apart own groups = cleaned_after-apart (own ∷ []) groups
