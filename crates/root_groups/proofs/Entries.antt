-- Looking up an address among the entries of a sorted map.
use Rattle.std.proofs.Common.{◌≡◌, ℕ, cond, List, [], ◌∷◌, Some, refl, sym, ap, ◌∙◌}
use Rattle.std.specs.Map.{lookup}
use Rattle.std.specs.Ordering.{is_eq}
use Rattle.net_base.specs.contracts.address.AddrOrd.TheImpl.{ghosts}
use Rattle.net_base.specs.declared.address.Addr.{Addr}
use Rattle.net_base.proofs.AddressOrder.{same_is}
use Rattle.root_groups.specs.Places.{place_of}

pub place_of-looked_up : (addr : Addr) (es : List (Addr × ℕ)) → place_of addr es ≡ lookup (λ k. is_eq (ghosts.cmp addr k)) es
place_of-looked_up addr [] = refl
place_of-looked_up addr (e ∷ es) =
    ap (λ b. cond b (Some e.1) (place_of addr es)) (sym (same_is addr e.0))
    ∙ ap (cond (is_eq (ghosts.cmp addr e.0)) (Some e.1)) (place_of-looked_up addr es)
