use Rattle.std.proofs.Common.{◌∷◌, [], ◌++◌, sym, ap, ◌∙◌}
use Rattle.indexmap.proofs.CallerLemmas.{insert_entry-new}
use Rattle.clean_groups.specs.Places.{place_of}
use Rattle.clean_groups.specs.contracts.hashed.HashedPartialEq.TheImpl.{ghosts}
use Rattle.clean_groups.proofs.Entries.{placed, key_of, place_of-placed, placed-append}
use Rattle.clean_groups.proofs.places.Places.put.Goals as goal

pub returns-clause-ok : goal.returns-clause-ok
returns-clause-ok c =
    let absent = sym (place_of-placed c.args.addr c.self.inside.entries.entries) ∙ (ap (place_of c.args.addr) c.self.view_is ∙ c.requires) in
    ap placed (c.in_ok-insert.ensures.entries ∙ insert_entry-new ghosts.eq c.self.inside.entries (key_of c.args.addr) c.args.place absent)
    ∙ (placed-append c.self.inside.entries.entries (key_of c.args.addr, c.args.place)
    ∙ ap (λ l. l ++ (c.args.addr, c.args.place) ∷ []) c.self.view_is)
