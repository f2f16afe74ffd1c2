use Rattle.std.proofs.Common.{◌≡◌, ◌<◌, ◌+◌, List, Some, length, sym, ap, subst, ◌∙◌, arith}
use Rattle.std.specs.List.{prefix_len}
use Rattle.std.proofs.lemmas.List.{drop_all}
use Rattle.govern_rules.specs.SortedLinks.{IsInOrder, is_below, links_of}
use Rattle.govern_rules.specs.Walks.{IsRunFrom, HasCome}
use Rattle.govern_rules.specs.declared.link.Link.{Link}
use Rattle.govern_rules.proofs.ByAddress.{own_behind}
use Rattle.govern_rules.proofs.Walking.{come_before, come_behind, none_there}
use Rattle.govern_rules.proofs.walk.Walk.go_to.Goals as goal
use Rattle.govern_rules.proofs.walk.Walk.go_to.Goals.{then-place-len-via-then-place-len, then-place-len-via-else-place-len+then-not-starts_at}

pub invariant_of-self : goal.invariant_of-self
invariant_of-self c =
    let addr = c.args.addr.now in
    let links : List Link = c.args.self.now in
    let run : List Link = c.run_from-run.result.now in
    let place : c.place_of-place.result ≡ prefix_len (is_below addr) links = c.place_of-place.ensures in
    let come = come_before addr links run (subst IsInOrder c.self.view_is c.self.invariant.ordered)
    (subst (λ n. IsRunFrom n links run) place c.run_from-run.ensures.front)
    (subst (λ n. n < length links → 0 < length run) place c.run_from-run.ensures.some) in
    subst (λ l. HasCome l (Some addr) c.place_of-place.result run) (sym c.self.view_is) (subst (λ n. HasCome links (Some addr) n run) (sym place) come)

pub returns-then-place-len-clause-none : goal.returns-then-place-len-clause-none
returns-then-place-len-clause-none c = λ none.
    let addr = c.args.addr.now in
    let links : List Link = c.args.self.now in
    let run : List Link = c.run_from-run.result.now in
    let place : c.place_of-place.result ≡ prefix_len (is_below addr) links = c.place_of-place.ensures in
    elim c.then-place-len.branch [
      | then-place-len-via-then-place-len w ↦
          let count : length c.self.inside.links.now ≡ length links = ap length c.self.view_is in
          sym (own_behind addr links) ∙ ap (links_of addr) (drop_all (prefix_len (is_below addr) links) links (omega (arith, place, w.if-place-len.true, c.len.ensures, count)))
      | then-place-len-via-else-place-len+then-not-starts_at w ↦
          none_there addr links run (subst IsInOrder c.self.view_is c.self.invariant.ordered)
          (subst (λ n. IsRunFrom n links run) place c.run_from-run.ensures.front)
          (subst (λ n. n < length links → 0 < length run) place c.run_from-run.ensures.some)
          (sym w.starts_at.ensures ∙ w.if-not-starts_at.true)
    ]

pub invariant_of-self-2 : goal.invariant_of-self-2
invariant_of-self-2 c =
    let addr = c.args.addr.now in
    let links : List Link = c.args.self.now in
    let run : List Link = c.run_from-run.result.now in
    let next : List Link = c.run_from-next.result.now in
    let place : c.place_of-place.result ≡ prefix_len (is_below addr) links = c.place_of-place.ensures in
    let come = come_behind addr links run next (subst IsInOrder c.self.view_is c.self.invariant.ordered)
    (subst (λ n. IsRunFrom n links run) place c.run_from-run.ensures.front)
    (sym c.starts_at.ensures ∙ c.if-not-starts_at.false)
    (subst (λ n. IsRunFrom (n + 1) links next) place c.run_from-next.ensures.front)
    (subst (λ n. n + 1 < length links → 0 < length next) place c.run_from-next.ensures.some) in
    subst (λ l. HasCome l (Some addr) (c.place_of-place.result + 1) next) (sym c.self.view_is)
    (subst (λ n. HasCome links (Some addr) (n + 1) next) (sym place) come)
