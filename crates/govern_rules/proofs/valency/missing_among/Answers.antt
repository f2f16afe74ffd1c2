use Rattle.std.proofs.Common.{◌≡◌, false, ◌&&◌, ◌+◌, List, take, get_or, ap, refl, ◌∙◌, arith}
use Rattle.std.specs.Option.{option_to_list}
use Rattle.net_base.specs.declared.address.Addr.{Addr}
use Rattle.net_base.specs.declared.address.Ip.TheVariants.{V4}
use Rattle.net_base.specs.declared.peer.Peer.{Peer}
use Rattle.peer_book.specs.Book.{is_of, peer_at}
use Rattle.govern_rules.specs.Search.{lookups}
use Rattle.govern_rules.specs.Statuses.{has_status, count_with}
use Rattle.govern_rules.specs.declared.link.Link.{Link}
use Rattle.govern_rules.proofs.Counting.{counted-more}
use Rattle.govern_rules.proofs.FoundMembers.{lookups-more}
use Rattle.govern_rules.proofs.valency.missing_among.Goals as goal
use Rattle.govern_rules.proofs.valency.missing_among.Goals.{then-missing-gt0, else-missing-gt0}

abbrev any : Addr
any = record { ip = V4 0; port = 0 }

pub loop-addr-preserved : goal.loop-addr-preserved
loop-addr-preserved c =
    let book : List Peer = c.args.book.now in
    let addrs = c.args.addrs.now in
    let links : List Link = c.args.links.now in
    let i = c.loop-addr.addr-index in
    let here = option_to_list (peer_at (get_or addrs i any) book) in
    let test = λ (p : Peer). is_of false p && has_status c.args.status links p in
    let more = ap (count_with c.args.status false links) (lookups-more book addrs i any (peer_at (get_or addrs i any) book) c.loop-addr-test.true refl) in
    let both = counted-more test (lookups book (take i addrs)) here in
    elim c.if-missing-gt0.branch [
      | then-missing-gt0 w ↦
          let found = w.at.ensures.value ∙ ap (λ l. option_to_list (peer_at (get_or addrs i any) l)) c.loop-addr.invariant.nearby in
          let one = w.count_with.ensures ∙ ap (count_with c.args.status false links) found in
          record {
            so_far = omega (arith, w.missing-is, w.saturating_sub-missing.ensures, one, more, both, c.loop-addr.invariant.so_far);
            nearby = w.nearby-is ∙ w.at.ensures.same ∙ c.loop-addr.invariant.nearby;
          }
      | else-missing-gt0 w ↦ record {
        so_far = omega (arith, w.missing-is, w.if-missing-gt0, more, both, c.loop-addr.invariant.so_far);
        nearby = w.nearby-is ∙ c.loop-addr.invariant.nearby;
      }
    ]
