use Rattle.std.proofs.Common.{sym, ap, ◌∙◌, is_some}
use Rattle.clean_groups.specs.Places.{place_of}
use Rattle.clean_groups.proofs.Entries.{place_of-placed}
use Rattle.clean_groups.proofs.places.Places.has.Goals as goal

pub returns : goal.returns
returns c =
    c.contains_key.ensures
    ∙ ap is_some (sym (place_of-placed c.args.addr c.self.inside.entries.entries) ∙ ap (place_of c.args.addr) c.self.view_is)
