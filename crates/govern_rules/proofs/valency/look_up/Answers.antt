use Rattle.std.proofs.Common.{◌++◌, ◌∷◌, [], None, Some, take, sym, ap, ◌∙◌}
use Rattle.std.proofs.lemmas.List.{append-nil}
use Rattle.net_base.specs.declared.address.Addr.{Addr}
use Rattle.net_base.specs.declared.address.Ip.TheVariants.{V4}
use Rattle.govern_rules.specs.Search.{lookups}
use Rattle.govern_rules.proofs.FoundMembers.{lookups-more}
use Rattle.govern_rules.proofs.valency.look_up.Goals as goal
use Rattle.govern_rules.proofs.valency.look_up.Goals.{in-Some+in_ok-push, in_default}

abbrev any : Addr
any = record { ip = V4 0; port = 0 }

pub loop-addr-preserved : goal.loop-addr-preserved
loop-addr-preserved c =
    let peers = c.args.book.now in
    let addrs = c.args.addrs.now in
    let i = c.loop-addr.addr-index in
    elim c.match-get.branch [
      | in-Some+in_ok-push w ↦
          ap (λ v. v.items) w.known-is
          ∙ (w.in_ok-push.ensures.items
          ∙ (ap (λ l. l ++ w.in-Some.peer ∷ []) c.loop-addr.invariant
          ∙ sym (lookups-more peers addrs i any (Some w.in-Some.peer) c.loop-addr-test.true (sym c.get.ensures ∙ w.in-Some.is))))
      | in_default w ↦
          ap (λ v. v.items) w.known-is
          ∙ (c.loop-addr.invariant
          ∙ (sym (append-nil (lookups peers (take i addrs)))
          ∙ sym (lookups-more peers addrs i any None c.loop-addr-test.true (sym c.get.ensures ∙ w.in_default.is))))
    ]
