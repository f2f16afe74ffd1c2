use Rattle.std.proofs.Common.{◌<◌, ◌≤◌, ◌+◌, ◌++◌, length, take, drop, get_or, set, take_all, append-nil, ap, ◌∙◌, arith}
use Rattle.std.proofs.lemmas.List.{drop_all}
use Rattle.chunked_list.specs.Firsts.{raised}
use Rattle.chunked_list.proofs.Firsts.{length-raised, rest_raised, rest_is, raise_next}
use Rattle.chunked_list.proofs.first.raise.Goals as goal

pub loop-place-init : goal.loop-place-init
loop-place-init c = rest_raised c.args.from c.args.firsts.now c.args.from (omega arith)

pub loop-place-preserved : goal.loop-place-preserved
loop-place-preserved c =
    let fs = c.args.firsts.now in
    let i = c.loop-place.place in
    let inside : i < length fs = omega arith in
    let now = take i (raised c.args.from fs) ++ drop i fs in
    ap (λ l. set l i (get_or l i 0 + 1)) c.loop-place.invariant
    ∙ raise_next c.args.from fs i 0 (omega arith) inside (get_or now i 0 + 1)
    (ap (λ n. n + 1) (rest_is c.args.from fs i 0 (omega arith) inside (raised c.args.from fs) (length-raised c.args.from fs)))

pub returns : goal.returns
returns c =
    let fs = c.args.firsts.now in
    let i = c.loop-place.place in
    let end : length fs ≤ i = omega arith in
    c.loop-place.invariant
    ∙ (ap (λ l. take i (raised c.args.from fs) ++ l) (drop_all i fs end)
    ∙ (append-nil (take i (raised c.args.from fs)) ∙ take_all i (raised c.args.from fs) (omega (arith, end, length-raised c.args.from fs))))
