use Rattle.std.proofs.Common.{ap, sym, ◌∙◌, slice_get}
use Rattle.conn_table.specs.Finds.{found_with}
use Rattle.conn_table.specs.Rosters.{facts_kept}
use Rattle.conn_table.proofs.IdPlaces.{find-place}
use Rattle.conn_table.proofs.roster.Roster.facts.Goals as goal

pub returns : goal.returns
returns c =
    c.facts_there.ensures
    ∙ (ap (λ n. found_with c.args.cid.0 (slice_get (facts_kept c.args.self.now) n)) c.place_of.ensures
    ∙ sym (find-place c.args.cid.0 0 c.args.self.now.given (facts_kept c.args.self.now) c.requires.ids_rise))
