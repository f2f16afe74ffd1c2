use Rattle.std.proofs.Common.{◌≡◌, ◌∙◌, ◌==◌, find, rules}
use Rattle.std.specs.Option.{option_copied}
use Rattle.std.proofs.lemmas.Iterator.{YieldsList-from_slice}
use Rattle.std.proofs.lemmas.Iterator.Search.{find_from_yields_List}
use Rattle.hs_message.specs.declared.offer.Offer.{Offer}
use Rattle.local_clients.proofs.decision.offer_of.Goals as goal

pub returns : goal.returns
returns c =
    let has_version = λ (offer : Offer). offer.version == c.args.version in
    let found : option_copied c.find-found.result ≡ find has_version c.args.table.now =
    find_from_yields_List has_version _ _ c.find-found.result c.find-found.ensures.ran (YieldsList-from_slice _ cc) (λ x b q k. search rules) in
    c.copied.ensures ∙ found
