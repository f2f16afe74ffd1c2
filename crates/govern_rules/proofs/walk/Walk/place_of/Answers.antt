use Rattle.std.proofs.Common.{◌≡◌, ◌+◌, List, sym, ap, ◌∙◌, arith}
use Rattle.std.specs.List.{prefix_len}
use Rattle.std.proofs.lemmas.List.Sums.{prefix_len-le-length}
use Rattle.govern_rules.specs.SortedLinks.{is_below}
use Rattle.govern_rules.specs.declared.link.Link.{Link}
use Rattle.govern_rules.proofs.Walking.{go_on}
use Rattle.govern_rules.proofs.walk.Walk.place_of.Goals as goal

pub returns-then-self-len : goal.returns-then-self-len
returns-then-self-len c =
    let links : List Link = c.self.inside.links.now in
    let few = prefix_len-le-length (is_below c.args.addr.now) links in
    let on = go_on c.args.addr.now c.self.inside.links.now c.self.inside.last c.self.inside.place c.self.inside.run.now c.self.invariant
    (sym c.is_beyond.ensures ∙ c.if-not-is_beyond.false) (sym c.ends_below.ensures ∙ c.if-ends_below.false) in
    let all : c.self.inside.place ≡ prefix_len (is_below c.args.addr.now) links = omega (arith, few, on, c.if-self-len.true, c.len.ensures) in
    all ∙ ap (prefix_len (is_below c.args.addr.now)) c.self.view_is

pub overflow_add-result : goal.overflow_add-result
overflow_add-result c =
    let few = prefix_len-le-length (is_below c.args.addr.now) c.self.inside.links.now in
    let on = go_on c.args.addr.now c.self.inside.links.now c.self.inside.last c.self.inside.place c.self.inside.run.now c.self.invariant
    (sym c.is_beyond.ensures ∙ c.if-not-is_beyond.false) (sym c.ends_below.ensures ∙ c.if-ends_below.false) in
    omega (arith, few, on, c.below_in.ensures, c.len.ensures, c.len.type_inv)

pub returns : goal.returns
returns c =
    let on = go_on c.args.addr.now c.self.inside.links.now c.self.inside.last c.self.inside.place c.self.inside.run.now c.self.invariant
    (sym c.is_beyond.ensures ∙ c.if-not-is_beyond.false) (sym c.ends_below.ensures ∙ c.if-ends_below.false) in
    ap (λ n. c.self.inside.place + n) c.below_in.ensures
    ∙ (on ∙ ap (prefix_len (is_below c.args.addr.now)) c.self.view_is)
