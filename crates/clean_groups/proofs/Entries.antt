-- The entries of the map as addresses beside places.
use Rattle.std.proofs.Common.{◌≡◌, ℕ, cond, List, [], ◌∷◌, ◌++◌, map, Some, refl, sym, ap, ◌∙◌, rules}
use Rattle.std.specs.Map.{lookup}
use Rattle.net_base.specs.Address.{same_address}
use Rattle.net_base.specs.declared.address.Addr.{Addr}
use Rattle.clean_groups.specs.Places.{place_of}
use Rattle.clean_groups.specs.contracts.hashed.HashedPartialEq.TheImpl.{ghosts}
use Rattle.clean_groups.specs.declared.hashed.Hashed.{Hashed}

abbrev pub placed : List (Hashed × ℕ) → List (Addr × ℕ)
placed = map (λ e. (e.0.0, e.1))

abbrev pub key_of : Addr → Hashed
key_of addr = record { 0 = addr }

same_key : (a b : Hashed) → ghosts.eq a b ≡ same_address a.0 b.0
same_key a b = search rules

pub place_of-placed : (addr : Addr) (es : List (Hashed × ℕ)) → place_of addr (placed es) ≡ lookup (ghosts.eq (key_of addr)) es
place_of-placed addr [] = refl
place_of-placed addr (e ∷ es) =
    ap (λ b. cond b (Some e.1) (place_of addr (placed es))) (sym (same_key (key_of addr) e.0))
    ∙ ap (cond (ghosts.eq (key_of addr) e.0) (Some e.1)) (place_of-placed addr es)

pub placed-append : (es : List (Hashed × ℕ)) (e : Hashed × ℕ) → placed (es ++ e ∷ []) ≡ placed es ++ (e.0.0, e.1) ∷ []
placed-append [] e = refl
placed-append (f ∷ es) e = ap (λ l. (f.0.0, f.1) ∷ l) (placed-append es e)
