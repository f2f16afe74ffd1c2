use Rattle.std.proofs.Common.{◌≡◌, ap, ◌∙◌}
use Rattle.conn_table.specs.declared.placed.Placed.{Placed}
use Rattle.govern_rules.specs.declared.link.Link.{Link}
use Rattle.links.specs.Link.{place_of}
use Rattle.links.specs.Rows.{stands_at, without_link}
use Rattle.links.proofs.CountedLinks.{gone-stands}
use Rattle.links.proofs.linked.count_anew.Goals as goal

pub enter-requires : goal.enter-requires
enter-requires c =
    ap (stands_at (place_of c.args.link)) (c.drop_at.ensures ∙ ap (λ (p : Placed). without_link p c.args.counted.now) c.place_of.ensures)
    ∙ gone-stands (place_of c.args.link) c.args.counted.now
