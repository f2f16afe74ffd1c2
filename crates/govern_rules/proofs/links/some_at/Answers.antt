use Rattle.std.proofs.Common.{◌≡◌, ◌+◌, ◌≤◌, List, length, drop, sym, ap, subst, ◌∙◌, arith}
use Rattle.std.specs.List.{list_any, prefix_len}
use Rattle.std.proofs.lemmas.List.{drop_all}
use Rattle.std.proofs.lemmas.List.Sums.{prefix_len-le-length}
use Rattle.govern_rules.specs.Marks.{has_mark}
use Rattle.govern_rules.specs.SortedLinks.{AreNotBelow, is_below, links_of}
use Rattle.govern_rules.specs.declared.link.Link.{Link}
use Rattle.govern_rules.proofs.ByAddress.{not_below, own_behind}
use Rattle.govern_rules.proofs.Spots.{SayAll, elsewhere, marked_here, unmarked_here}
use Rattle.govern_rules.proofs.Walking.{within}
use Rattle.govern_rules.proofs.links.some_at.Goals as goal

pub loop-link-init : goal.loop-link-init
loop-link-init c =
    let links : List Link = c.args.links.now in
    let start : prefix_len (is_below c.args.addr.now) links ≡ c.args.spot.place + 0 = omega (arith, c.requires.spot.behind) in
    record {
      above = subst (λ n. AreNotBelow c.args.addr.now (drop n links)) start (not_below c.args.addr.now links c.requires.ordered);
      same = ap (λ n. list_any (has_mark c.args.mark) (links_of c.args.addr.now (drop n links))) (sym start)
          ∙ ap (list_any (has_mark c.args.mark)) (own_behind c.args.addr.now links);
    }

pub returns-then-not-is_same : goal.returns-then-not-is_same
returns-then-not-is_same c =
    let least : c.args.spot.place ≤ length c.args.links.now = omega (arith, prefix_len-le-length (is_below c.args.addr.now) c.args.links.now, c.requires.spot.behind) in
    elsewhere c.args.addr.now c.args.mark c.args.links.now c.args.spot.run.now c.args.spot.place c.loop-link.link-index _ c.requires.ordered c.requires.spot.front
    least c.loop-link-test.true c.loop-link.invariant (sym c.is_same.ensures ∙ c.if-not-is_same.true)

pub returns-then-has_mark : goal.returns-then-has_mark
returns-then-has_mark c =
    let least : c.args.spot.place ≤ length c.args.links.now = omega (arith, prefix_len-le-length (is_below c.args.addr.now) c.args.links.now, c.requires.spot.behind) in
    marked_here c.args.addr.now c.args.mark c.args.links.now c.args.spot.run.now c.args.spot.place c.loop-link.link-index _ c.requires.ordered c.requires.spot.front
    least c.loop-link-test.true c.loop-link.invariant (sym c.is_same.ensures ∙ c.if-not-is_same.false) (sym c.has_mark.ensures ∙ c.if-has_mark.true)

pub loop-link-preserved : goal.loop-link-preserved
loop-link-preserved c =
    let least : c.args.spot.place ≤ length c.args.links.now = omega (arith, prefix_len-le-length (is_below c.args.addr.now) c.args.links.now, c.requires.spot.behind) in
    unmarked_here c.args.addr.now c.args.mark c.args.links.now c.args.spot.run.now c.args.spot.place c.loop-link.link-index _ c.requires.ordered c.requires.spot.front
    least c.loop-link-test.true c.loop-link.invariant (sym c.is_same.ensures ∙ c.if-not-is_same.false) (sym c.has_mark.ensures ∙ c.if-has_mark.false)

pub overflow_add-next : goal.overflow_add-next
overflow_add-next c =
    let least : c.args.spot.place ≤ length c.args.links.now = omega (arith, prefix_len-le-length (is_below c.args.addr.now) c.args.links.now, c.requires.spot.behind) in
    omega (arith, within c.args.links.now c.args.spot.run.now c.args.spot.place c.requires.spot.front, least, c.len-count.ensures, c.len-count.type_inv)

pub returns-then-next-count : goal.returns-then-next-count
returns-then-next-count c =
    let next = c.args.spot.place + length c.args.spot.run.now in
    let all : c.loop-link.link-index ≡ length c.args.spot.run.now = omega (arith, c.loop-link-test.false, c.loop-link.auto.link-index-end) in
    let say = subst (λ n. SayAll c.args.addr.now c.args.mark c.args.links.now (c.args.spot.place + n)) all c.loop-link.invariant in
    ap (λ l. list_any (has_mark c.args.mark) (links_of c.args.addr.now l))
    (sym (drop_all next c.args.links.now (omega (arith, c.if-next-count.true, c.len-count.ensures))))
    ∙ say.same

pub some_from-requires-clause-above : goal.some_from-requires-clause-above
some_from-requires-clause-above c =
    let all : c.loop-link.link-index ≡ length c.args.spot.run.now = omega (arith, c.loop-link-test.false, c.loop-link.auto.link-index-end) in
    (subst (λ n. SayAll c.args.addr.now c.args.mark c.args.links.now (c.args.spot.place + n)) all c.loop-link.invariant).above

pub returns : goal.returns
returns c =
    let all : c.loop-link.link-index ≡ length c.args.spot.run.now = omega (arith, c.loop-link-test.false, c.loop-link.auto.link-index-end) in
    c.some_from.ensures ∙ (subst (λ n. SayAll c.args.addr.now c.args.mark c.args.links.now (c.args.spot.place + n)) all c.loop-link.invariant).same
