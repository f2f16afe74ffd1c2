use Rattle.std.proofs.Common.{cond, Some, sym, ap, ◌∙◌}
use Rattle.net_base.specs.Address.{same_address}
use Rattle.net_base.proofs.AddressOrder.{same_is}
use Rattle.root_groups.specs.Places.{place_of}
use Rattle.root_groups.proofs.Entries.{place_of-looked_up}
use Rattle.root_groups.proofs.places.Places.put.Goals as goal

pub returns : goal.returns
returns c = λ other. place_of-looked_up other c.insert.new.self.entries
    ∙ (c.in_ok-insert.ensures.updates.0 other
    ∙ (rw (same_is c.args.addr other) (ap (cond _ (Some c.args.place)) (sym (place_of-looked_up other c.self.inside.entries.entries)))
    ∙ ap (λ l. cond (same_address c.args.addr other) (Some c.args.place) (place_of other l)) c.self.view_is))
