use Rattle.std.proofs.Common.{◌∙◌, sym, arith}
use Rattle.std.proofs.lemmas.Bool.Decides.{nat_tests}
use Rattle.trace_text.proofs.InTurn.{octet_at, octet_none, before_two, before_three}
use Rattle.trace_text.proofs.address.octet_before.Goals as goal
use Rattle.trace_text.proofs.address.octet_before.Goals.{in_default-via-then-text-lt2, in_default-via-in-len2-up+else-end-separator+then-text-lt3, in_default-via-in-len3-up+else-end-separator-2+then-text-lt4, in_default-via-in-len4-up+else-end-separator-3}

pub returns-in-len3-up : goal.returns-in-len3-up
returns-in-len3-up c =
    let s = c.args.separator in
    let text = c.args.text.now in
    c.octet_up_to-in-len3-up.ensures
    ∙ octet_at s 2 text c.requires (omega arith) (omega (arith, c.in-len3-up.len_at_least), c.if-end-separator-2.true) (before_two s text (λ h. c.if-end-separator.false h.1))

pub returns-in-len4-up : goal.returns-in-len4-up
returns-in-len4-up c =
    let s = c.args.separator in
    let text = c.args.text.now in
    c.octet_up_to-in-len4-up.ensures
    ∙ octet_at s 3 text c.requires (omega arith) (omega (arith, c.in-len4-up.len_at_least), c.if-end-separator-3.true) (before_three s text (λ h. c.if-end-separator.false h.1) (λ h. c.if-end-separator-2.false h.1))

pub returns-in_default : goal.returns-in_default
returns-in_default c =
    let s = c.args.separator in
    let text = c.args.text.now in
    elim c.in_default.branch [
      | in_default-via-then-text-lt2 w ↦ sym (octet_none s text (λ h. absurd (let l = h.0 in grind (arith, nat_tests))) (λ h. absurd (let l = h.0 in grind (arith, nat_tests))) (λ h. absurd (let l = h.0 in grind (arith, nat_tests))))
      | in_default-via-in-len2-up+else-end-separator+then-text-lt3 w ↦ sym (octet_none s text (λ h. w.if-end-separator.false h.1) (λ h. absurd (let l = h.0 in grind (arith, nat_tests))) (λ h. absurd (let l = h.0 in grind (arith, nat_tests))))
      | in_default-via-in-len3-up+else-end-separator-2+then-text-lt4 w ↦ sym (octet_none s text (λ h. w.if-end-separator.false h.1) (λ h. w.if-end-separator-2.false h.1) (λ h. absurd (let l = h.0 in grind (arith, nat_tests))))
      | in_default-via-in-len4-up+else-end-separator-3 w ↦ sym (octet_none s text (λ h. w.if-end-separator.false h.1) (λ h. w.if-end-separator-2.false h.1) (λ h. w.if-end-separator-3.false h.1))
    ]
