-- Lists that are told, and what comes behind them.
use Rattle.std.proofs.Common.{◌≡◌, refl, ap, List, [], ◌++◌, Option, Some, None}
use Rattle.std.proofs.lemmas.List.{append-nil, append_assoc}
use Rattle.node_world.specs.Meanings.{with_more}

pub with_more-nil : {T : Type 0} (told : Option (List T)) → with_more told [] ≡ told
with_more-nil None = refl
with_more-nil (Some items) = ap Some (append-nil items)

-- what comes behind what came behind
pub with_more-append : {T : Type 0} (told : Option (List T)) (first later : List T)
    → with_more (with_more told first) later ≡ with_more told (first ++ later)
with_more-append None first later = refl
with_more-append (Some items) first later = ap Some (append_assoc items first later)
