-- Local peers: the members of the groups, taken together and group by group.
use Rattle.std.proofs.Common.{◌≡◌, Bool, true, false, List, [], ◌∷◌, All, is_some, refl, arith}
use Rattle.laws.proofs.Words.{not-true, All-from_recursion, recursion_from_All, fails_before_first, list_any-append}
use Rattle.laws.specs.Words.{AllByRecursion, position, same_address, Addr, Group, is_not_local, is_listed, members_of}
use Rattle.laws.specs.Laws.{is_local}
use Rattle.laws.proofs.GroupsApart.{unlisted_append}

-- who is local in no group
no_member-each : (a : Addr) (groups : List Group) → is_local groups a ≡ false → AllByRecursion (λ group. is_listed a group.members ≡ false) groups
no_member-each a [] h = tt
no_member-each a (g ∷ groups) h =
    let parts = unlisted_append a g.members (members_of groups) h in
    (parts.0, no_member-each a groups parts.1)

pub no_member-unlisted : (a : Addr) (groups : List Group) → is_local groups a ≡ false → All (λ group. is_listed a group.members ≡ false) groups
no_member-unlisted a groups h = All-from_recursion (λ group. is_listed a group.members ≡ false) groups (no_member-each a groups h)

not_in-all : (a : Addr) (groups : List Group) → AllByRecursion (λ group. is_listed a group.members ≡ false) groups → is_local groups a ≡ false
not_in-all a [] h = refl
not_in-all a (g ∷ groups) h = grind (arith, list_any-append (same_address a) g.members (members_of groups), h.0, not_in-all a groups h.1)

unplaced : {X : Type 0} (p : X → Bool) (xs : List X) → is_some (position p xs) ≡ false → All (λ x. p x ≡ false) xs
unplaced p xs none k d inside = fails_before_first p xs k d (grind (arith, none, inside))

-- The rules see the same.
pub not_local-no_member : (a : Addr) (groups : List Group) → is_not_local groups a ≡ true → is_local groups a ≡ false
not_local-no_member a groups h = search (arith, not_in-all, recursion_from_All, unplaced, not-true)
