use Rattle.std.proofs.Common.{sym, subst}
use Rattle.socket_flow.specs.Peers.{NoneOf, IsNextOf}
use Rattle.socket_flow.proofs.Meeting.{waiting_is, waiting_none, one_gone, next_is}
use Rattle.socket_flow.proofs.asking.next_caller.Goals as goal

pub loop-key-preserved : goal.loop-key-preserved
loop-key-preserved c =
    let none = waiting_none _ (sym c.in_default-caller_at.ensures) in record {
      none = λ rest. c.loop-key.invariant.none (subst (λ line. NoneOf c.args.table.now line) (sym c.in-Some.ensures.items) (none, rest));
      next = λ key addr behind p. c.loop-key.invariant.next key addr behind (subst (λ line. IsNextOf c.args.table.now line key addr behind) (sym c.in-Some.ensures.items) (one_gone _ _ key c.in-Some.key addr behind none p));
    }

pub returns-in-Some-caller_at-clause-next : goal.returns-in-Some-caller_at-clause-next
returns-in-Some-caller_at-clause-next c = c.loop-key.invariant.next _ _ _ (next_is _ _ _ _ _ c.in-Some.ensures.items c.in-Some-caller_at.ensures)

pub returns-in-Some-caller_at-clause-waits : goal.returns-in-Some-caller_at-clause-waits
returns-in-Some-caller_at-clause-waits c = waiting_is _ _ (sym c.in-Some-caller_at.ensures)
