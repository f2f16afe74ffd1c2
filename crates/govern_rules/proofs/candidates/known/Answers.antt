use Rattle.std.proofs.Common.{◌++◌, length, take, drop, sym, ap, ◌∙◌}
use Rattle.std.proofs.Math.Seq.{take-add}
use Rattle.std.proofs.lemmas.List.Elements.{filter-append}
use Rattle.std.specs.List.{filter}
use Rattle.govern_rules.specs.Search.{suits}
use Rattle.govern_rules.proofs.candidates.known.Goals as goal

pub loop-place-preserved : goal.loop-place-preserved
loop-place-preserved c =
    let book = c.args.book.now in
    let test = suits c.args.search.now in
    let place = c.loop-place.place in
    let run = c.run_from-run.result.now in
    let cands =
    c.in_ok-take_in.ensures.cands
    ∙ (ap (λ l. l ++ filter test run) c.loop-place.invariant.0
    ∙ (ap (λ l. filter test (take place book) ++ filter test l) c.run_from-run.ensures.front
    ∙ sym (ap (filter test) (take-add place (length run) book) ∙ filter-append test (take place book) (take (length run) (drop place book))))) in
    (cands, c.in_ok-take_in.ensures.same ∙ c.loop-place.invariant.1)
