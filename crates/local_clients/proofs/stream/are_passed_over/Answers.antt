use Rattle.std.proofs.Common.{IsTrue, nat_eq, length, [], ◌∙◌, rules}
use Rattle.mux_segment.specs.Steps.{segment_with}
use Rattle.local_clients.proofs.PassedOver.{passes_on, passes_smaller, none_left, passes_whole, passes_rest}
use Rattle.local_clients.proofs.stream.are_passed_over.Goals as goal

pub loop-header-smaller : goal.loop-header-smaller
loop-header-smaller c =
    passes_smaller c.loop-header.rest.now (segment_with c.in-Some.header c.in-Some.field-0-1.now) c.in-Some.after.now c.in-Some.ensures

pub loop-header-preserved : goal.loop-header-preserved
loop-header-preserved c =
    let payload = c.in-Some.field-0-1.now in
    let passes : IsTrue c.is_passed_over.result = search rules in
    passes_on c.args.bytes.now c.loop-header.rest.now (segment_with c.in-Some.header payload) c.in-Some.after.now c.in-Some.ensures
    (λ context version. c.is_passed_over.ensures passes context version payload) c.loop-header.invariant

pub returns-clause-segments : goal.returns-clause-segments
returns-clause-segments c = λ empty context version.
    passes_whole c.args.bytes.now c.loop-header.rest.now c.in_default.ensures c.loop-header.invariant context version

pub returns-clause-rest : goal.returns-clause-rest
returns-clause-rest c = λ empty.
    let rest = c.loop-header.rest.now in
    let none : IsTrue (nat_eq (length rest) 0) = search rules in
    passes_rest c.args.bytes.now rest c.in_default.ensures c.loop-header.invariant ∙ none_left rest none
