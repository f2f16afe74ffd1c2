use Rattle.std.proofs.Common.{◌≡◌, ◌+◌, ◌≤◌, ◌<◌, [], Bool, true, false, cond, ℕ, List, drop, get_or, length, sym, ap, ◌∙◌, subst, arith, rules}
use Rattle.std.proofs.lemmas.List.{drop_all}
use Rattle.govern_rules.specs.ClassRules.{count_of}
use Rattle.govern_rules.specs.Links.{some_link}
use Rattle.govern_rules.specs.Marks.{has_mark, counts}
use Rattle.govern_rules.specs.declared.link.Link.{Link}
use Rattle.govern_rules.proofs.Walking.{run-next}
use Rattle.govern_rules.proofs.Counting.{count-next, no-link}
use Rattle.govern_rules.proofs.marked.count_marked.Goals as goal

pub counts-requires-clause-after : goal.counts-requires-clause-after
counts-requires-clause-after c =
    let inside : c.loop-place.place < length c.args.links.now = omega arith in
    run-next c.args.links.now c.at_hand-run.result.now c.split_at.result.1.now c.loop-place.place c.at_hand-run.ensures.front (c.at_hand-run.ensures.some inside) c.split_at.ensures.back

pub loop-place-preserved : goal.loop-place-preserved
loop-place-preserved c =
    let inside : c.loop-place.place < length c.args.links.now = omega arith in
    let links : List Link = c.args.links.now in
    let run : List Link = c.at_hand-run.result.now in
    let value = λ (d : Link). sym (c.counts.ensures.value d ∙ ap (counts c.args.mark c.args.big (get_or links c.loop-place.place d) (drop (c.loop-place.place + 1) links)) c.loop-place.invariant.nearby) in
    let more = count-next c.args.big c.args.mark c.args.links.now c.loop-place.place c.args.book.now c.requires.distinct (omega arith) c.counts.result value in
    let one : cond {A = ℕ} c.counts.result 1 0 ≤ 1 = at_most_one c.counts.result in
    let added : c.from-count.result ≡ cond {A = ℕ} c.counts.result 1 0 = search rules in
    record {
      so_far = omega (arith, more, added, c.loop-place.invariant.so_far);
      few = omega (arith, one, added, c.loop-place.invariant.few);
      rest = run-next links run c.split_at.result.1.now c.loop-place.place c.at_hand-run.ensures.front (c.at_hand-run.ensures.some inside) c.split_at.ensures.back;
      nearby = c.counts.ensures.same ∙ c.loop-place.invariant.nearby;
    }
  where
    at_most_one : (b : Bool) → cond {A = ℕ} b 1 0 ≤ 1
    at_most_one true = omega arith
    at_most_one false = omega arith

pub returns : goal.returns
returns c =
    let end : drop c.loop-place.place c.args.links.now ≡ [] = drop_all c.loop-place.place c.args.links.now (omega arith) in
    let none = no-link c.args.big c.args.mark c.args.book.now in
    let before = subst (λ l. c.loop-place.count + count_of c.args.big (some_link (has_mark c.args.mark) l) c.args.book.now ≡ count_of c.args.big (some_link (has_mark c.args.mark) c.args.links.now) c.args.book.now) end c.loop-place.invariant.so_far in
    omega (arith, none, before)
