use Rattle.std.proofs.Common.{◌≡◌, ◌++◌, take, get_or, List, refl, sym, ap, ◌∙◌}
use Rattle.std.specs.List.{filter}
use Rattle.std.specs.Option.{option_to_list}
use Rattle.std.proofs.lemmas.List.Elements.{filter-append}
use Rattle.net_base.specs.declared.address.Addr.{Addr}
use Rattle.net_base.specs.declared.address.Ip.TheVariants.{V4}
use Rattle.net_base.specs.declared.peer.Peer.{Peer}
use Rattle.peer_book.specs.Book.{peer_at}
use Rattle.govern_rules.specs.Search.{suits, lookups}
use Rattle.govern_rules.proofs.FoundMembers.{lookups-more}
use Rattle.govern_rules.proofs.candidates.found.Goals as goal

abbrev any : Addr
any = record { ip = V4 0; port = 0 }

pub loop-addr-preserved : goal.loop-addr-preserved
loop-addr-preserved c =
    let peers : List Peer = c.args.book.now in
    let addrs : List Addr = c.args.addrs.now in
    let i = c.loop-addr.addr-index in
    let test = suits c.args.search.now in
    let known : List Peer = lookups peers (take i addrs) in
    let next = peer_at (get_or addrs i any) peers in
    let there : c.at.result.now ≡ option_to_list next =
    c.at.ensures.value ∙ ap (λ b. option_to_list (peer_at (get_or addrs i any) b)) c.loop-addr.invariant.nearby in
    record {
      cands = c.in_ok-take_in.ensures.cands
          ∙ (ap (λ l. l ++ filter test c.at.result.now) c.loop-addr.invariant.cands
          ∙ (ap (λ l. filter test known ++ filter test l) there
          ∙ (sym (filter-append test known (option_to_list next))
          ∙ sym (ap (filter test) (lookups-more peers addrs i any next c.loop-addr-test.true refl)))));
      walk = c.in_ok-take_in.ensures.same ∙ c.loop-addr.invariant.walk;
      nearby = c.at.ensures.same ∙ c.loop-addr.invariant.nearby;
    }
