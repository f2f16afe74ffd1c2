use Rattle.std.proofs.Common.{◌≡◌, ◌++◌, length, take}
use Rattle.std.specs.List.{flat_map}
use Rattle.hs_message.specs.Canonical.{map_spelling, offer_spelling, info_spelling_in}
use Rattle.hs_message.proofs.write.put_table.Given as goal

abbrev pub invariant-loop-offer : goal.invariant-loop-offer
invariant-loop-offer l =
    l.out ≡ l.fn.out ++ map_spelling (length l.table) (flat_map (offer_spelling (info_spelling_in l.profile)) (take l.offer-index l.table))
