-- The places that are noted for the members of groups.
use Rattle.std.proofs.Common.{◌≡◌, ℕ, ◌<◌, ◌≤◌, ◌+◌, Bool, true, false, cond, List, [], length, take, drop, get_or, Option, Some, refl, sym, ap, ◌∙◌, add-one, drop-cons}
use Rattle.std.specs.List.{position_from}
use Rattle.std.proofs.Math.ListN.{drop_of_length-le}
use Rattle.std.proofs.lemmas.Iterator.Adapters.{position_from-zero}
use Rattle.std.proofs.lemmas.List.{take_more}
use Rattle.net_base.specs.Address.{same_address}
use Rattle.net_base.specs.declared.address.Addr.{Addr}
use Rattle.net_base.specs.declared.event.Group.{Group}
use Rattle.root_groups.specs.Cleaned.{is_listed, group_of}
use Rattle.root_groups.specs.Places.{place_of}
use Rattle.root_groups.proofs.Listed.{same_address-turn, listed-push}

-- ---- the members of one group

-- those of a front of the members have a place, the others the one that they had
abbrev pub HasNoted : List Addr → ℕ → List (Addr × ℕ) → List (Addr × ℕ) → ℕ → Type 0
HasNoted members place before places i =
    (addr : Addr) → place_of addr places ≡ cond (is_listed addr (take i members)) (Some place) (place_of addr before)

either : (b c : Bool) (place : ℕ) (o : Option ℕ) → cond b (Some place) (cond c (Some place) o) ≡ cond (cond b true c) (Some place) o
either true c place o = refl
either false c place o = refl

pub noted-more : (members : List Addr) (place : ℕ) (before places next : List (Addr × ℕ)) (i : ℕ) (d : Addr) → HasNoted members place before places i →
    i < length members →
    ((addr : Addr) → place_of addr next ≡ cond (same_address (get_or members i d) addr) (Some place) (place_of addr places)) →
    HasNoted members place before next (i + 1)
noted-more members place before places next i d held inside more addr =
    let m : Addr = get_or members i d in
    more addr
    ∙ (ap (λ b. cond b (Some place) (place_of addr places)) (same_address-turn m addr)
    ∙ (ap (cond (same_address addr m) (Some place)) (held addr)
    ∙ (either (same_address addr m) (is_listed addr (take i members)) place (place_of addr before)
    ∙ ap (λ b. cond b (Some place) (place_of addr before))
    (sym (ap (is_listed addr) (take_more members i d inside) ∙ listed-push addr m (take i members))))))

-- ---- one group before the others

-- the first groups of those behind a place are noted
abbrev pub AreNoted : List Group → List (Addr × ℕ) → ℕ → Type 0
AreNoted groups places place = (addr : Addr) → place_of addr places ≡ position_from (λ g. is_listed addr g.members) place (drop place groups)

pub AreNoted-none : (groups : List Group) (places : List (Addr × ℕ)) (place : ℕ) → length groups ≤ place → places ≡ [] → AreNoted groups places place
AreNoted-none groups places place past none addr =
    ap (place_of addr) none ∙ sym (ap (position_from (λ g. is_listed addr g.members) place) (drop_of_length-le groups {i = place} past))

pub AreNoted-more : (groups : List Group) (places next : List (Addr × ℕ)) (place : ℕ) (d : Group) → AreNoted groups places (place + 1) →
    place < length groups →
    ((addr : Addr) → place_of addr next ≡ cond (is_listed addr (get_or groups place d).members) (Some place) (place_of addr places)) →
    AreNoted groups next place
AreNoted-more groups places next place d held inside more addr =
    let g : Group = get_or groups place d in
    let p : Group → Bool = λ x. is_listed addr x.members in
    more addr
    ∙ (ap (cond (p g) (Some place)) (held addr ∙ ap (λ n. position_from p (place + 1) (drop n groups)) (add-one place))
    ∙ sym (ap (position_from p place) (drop-cons groups place d inside)))

pub noted_by_groups : (groups : List Group) (places : List (Addr × ℕ)) → AreNoted groups places 0 → (addr : Addr) →
    place_of addr places ≡ group_of addr groups
noted_by_groups groups places held addr = held addr ∙ sym (position_from-zero (λ g. is_listed addr g.members) groups)
