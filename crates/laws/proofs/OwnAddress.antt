-- The own address is neither a member of the groups, nor a public root peer, nor taken of what a peer told, nor wanted
-- as that of a big ledger peer.
use Rattle.std.proofs.Common.{ℕ, ◌≡◌, true, false, arith, List, [], ◌∷◌, All, arith}
use Rattle.laws.proofs.Words.{or_parts, All-weaker, All-take, All-from_recursion, taken_are_new}
use Rattle.laws.specs.Words.{same_address, Addr, Group, Peer, Settings, Machine, is_wanted_big, is_listed, first_places, cleaned, members_of, publics_of, is_new, fresh_of}
use Rattle.laws.specs.Laws.{is_local}
use Rattle.laws.proofs.GroupsApart.{NoneListed, first_places-none, cleaned-none}
use Rattle.laws.proofs.Locals.{not_local-no_member}

-- an address is another one than the own
abbrev pub IsOther : Settings → Addr → Type 0
IsOther settings addr = same_address addr settings.own ≡ false

unlisted-other : (settings : Settings) (addrs : List Addr) → NoneListed (settings.own ∷ []) addrs → All (IsOther settings) addrs
unlisted-other settings addrs h = All-weaker (λ a. is_listed a (settings.own ∷ []) ≡ false) (IsOther settings)
    (λ a none. (or_parts (same_address a settings.own) false none).0) addrs
    (All-from_recursion (λ a. is_listed a (settings.own ∷ []) ≡ false) addrs h)

pub members-other : (settings : Settings) (groups : List Group) → All (IsOther settings) (members_of (cleaned settings.own groups))
members-other settings groups = unlisted-other settings (members_of (cleaned settings.own groups)) (cleaned-none (settings.own ∷ []) groups)

pub publics-other : (settings : Settings) (target : ℕ) (addrs : List Addr) → All (IsOther settings) (publics_of settings.own target addrs)
publics-other settings target addrs =
    let firsts : List Addr = first_places (settings.own ∷ []) addrs in
    All-take (IsOther settings) target firsts (unlisted-other settings firsts (first_places-none (settings.own ∷ []) addrs))

pub taken-other : (settings : Settings) (target : ℕ) (peers : List Peer) (told : List Addr) →
    All (IsOther settings) (fresh_of settings.own target settings.version peers told)
taken-other settings target peers told = All-weaker (λ a. is_new settings.own settings.version peers a ≡ true) (IsOther settings) (λ a h. grind (arith, h))
    (fresh_of settings.own target settings.version peers told) (taken_are_new settings.own target settings.version peers told)

-- neither is the address of a local peer
pub wanted-other : (addr : Addr) (m : Machine) → is_wanted_big addr m ≡ true → IsOther m.settings addr
wanted-other addr m h = grind (arith, h)

pub wanted-not_local : (addr : Addr) (m : Machine) → is_wanted_big addr m ≡ true → is_local m.groups addr ≡ false
wanted-not_local addr m h = not_local-no_member addr m.groups (grind (arith, h))
