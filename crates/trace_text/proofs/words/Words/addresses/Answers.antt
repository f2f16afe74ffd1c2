use Rattle.std.proofs.Common.{rules, arith, sym, ap, ◌∙◌}
use Rattle.trace_text.proofs.Binds.{read_shorter}
use Rattle.trace_text.proofs.Lists.{behind, addresses-end, addresses-more, addresses-refused}
use Rattle.trace_text.specs.Addresses.{address_of}
use Rattle.trace_text.specs.Events.{next_addresses}
use Rattle.trace_text.specs.declared.line.LineRefusal.TheVariants.{BadWord}
use Rattle.trace_text.proofs.words.Words.addresses.Goals as goal

pub returns-in_err-address : goal.returns-in_err-address
returns-in_err-address c =
    let e = c.loop-addresses.invariant ∙ addresses-refused c.args.version c.loop-addresses.self c.in_err-address.field-0.0 c.loop-addresses.addresses (sym c.is_at_break.ensures ∙ c.loop-addresses-test.true) c.in_err-address.ensures in
    search (rules, e)

pub loop-addresses-smaller : goal.loop-addresses-smaller
loop-addresses-smaller c =
    let e = read_shorter (address_of c.args.version) BadWord c.loop-addresses.self c.address.new.self c.in_ok-address.field-0 c.in_ok-address.ensures in
    omega (arith, e)

pub loop-addresses-preserved : goal.loop-addresses-preserved
loop-addresses-preserved c =
    c.loop-addresses.invariant ∙ addresses-more c.args.version c.loop-addresses.self c.address.new.self c.in_ok-address.field-0 c.loop-addresses.addresses (sym c.is_at_break.ensures ∙ c.loop-addresses-test.true) c.in_ok-address.ensures
    ∙ ap (λ xs. behind xs (next_addresses c.args.version c.address.new.self)) (sym c.in_ok-push.ensures.ok)

pub returns : goal.returns
returns c = c.loop-addresses.invariant ∙ addresses-end c.args.version c.loop-addresses.self c.loop-addresses.addresses (sym c.is_at_break.ensures ∙ c.loop-addresses-test.false)
