use Rattle.std.proofs.Common.{sym}
use Rattle.share_rounds.proofs.Homes.{told_by_group, told_by_roots}
use Rattle.share_rounds.proofs.serving.is_advertised.Goals as goal

pub returns-in-Some : goal.returns-in-Some
returns-in-Some c =
    rw (c.as_slice.ensures, c.list.ensures.value)
    (told_by_group c.args.addr c.args.groups.now c.args.roots.now.publics c.in-Some.place c.index-as_slice-place.result (sym c.in-Some.ensures))

pub returns-in-None : goal.returns-in-None
returns-in-None c =
    rw c.is_public.ensures (told_by_roots c.args.addr c.args.groups.now c.args.roots.now.publics (sym c.in-None.ensures))
