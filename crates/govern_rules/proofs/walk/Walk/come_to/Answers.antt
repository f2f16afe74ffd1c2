use Rattle.std.proofs.Common.{◌≡◌, ◌<◌, ◌+◌, List, Some, length, sym, subst, ◌∙◌, arith}
use Rattle.std.specs.List.{prefix_len}
use Rattle.govern_rules.specs.SortedLinks.{is_below}
use Rattle.govern_rules.specs.Walks.{IsRunFrom, IsSpot, HasCome}
use Rattle.govern_rules.specs.declared.link.Link.{Link}
use Rattle.govern_rules.proofs.Walking.{come_already, come_behind, run-next}
use Rattle.govern_rules.proofs.walk.Walk.come_to.Goals as goal

pub at_hand-next-requires : goal.at_hand-next-requires
at_hand-next-requires c =
    run-next c.self.inside.links.now c.self.inside.run.now c.split_at.result.1.now c.self.inside.place c.self.invariant.front
    (c.self.invariant.some (omega (arith, c.if-self-count.true, c.len-count.ensures))) c.split_at.ensures.back

pub invariant_of-self : goal.invariant_of-self
invariant_of-self c =
    let addr = c.args.addr.now in
    let links : List Link = c.self.inside.links.now in
    let run : List Link = c.self.inside.run.now in
    let next : List Link = c.at_hand-next.result.now in
    let place : c.self.inside.place ≡ prefix_len (is_below addr) links =
    come_already addr c.self.inside.links.now c.self.inside.last c.self.inside.place c.self.inside.run.now c.self.invariant
    (sym c.is_beyond.ensures ∙ c.if-is_beyond.true) (sym c.starts_at.ensures ∙ c.if-starts_at.true) in
    let come = come_behind addr links run next c.self.invariant.ordered
    (subst (λ n. IsRunFrom n links run) place c.self.invariant.front)
    (sym c.starts_at.ensures ∙ c.if-starts_at.true)
    (subst (λ n. IsRunFrom (n + 1) links next) place c.at_hand-next.ensures.front)
    (subst (λ n. n + 1 < length links → 0 < length next) place c.at_hand-next.ensures.some) in
    subst (λ n. HasCome links (Some addr) (n + 1) next) (sym place) come

pub returns-then-is_beyond-clause-there : goal.returns-then-is_beyond-clause-there
returns-then-is_beyond-clause-there c =
    subst (λ links. IsSpot c.args.addr.now links c.self.inside.place c.self.inside.run.now) c.self.view_is (record {
      behind = come_already c.args.addr.now c.self.inside.links.now c.self.inside.last c.self.inside.place c.self.inside.run.now c.self.invariant
          (sym c.is_beyond.ensures ∙ c.if-is_beyond.true) (sym c.starts_at.ensures ∙ c.if-starts_at.true);
      front = c.self.invariant.front;
    })
