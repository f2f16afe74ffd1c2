use Rattle.std.proofs.Common.{◌∙◌, ◌∷◌, ◌++◌, [], List, take, drop, get_or, suc, ap, subst, add-one, drop-cons, arith}
use Rattle.std.proofs.lemmas.List.Sums.{prefix_len-le-length}
use Rattle.net_base.specs.declared.address.Addr.{Addr}
use Rattle.net_base.specs.declared.address.Ip.TheVariants.{V4}
use Rattle.net_base.specs.declared.peer.Peer.{Peer}
use Rattle.peer_book.specs.Newcomers.{with_all_new}
use Rattle.peer_book.proofs.Listing.{address_of}
use Rattle.peer_book.proofs.Merging.{Merging, merging-next}
use Rattle.peer_book.proofs.Rising.{is_under}
use Rattle.peer_book.proofs.merge.merged.Goals as goal

abbrev any : Addr
any = record { ip = V4 0; port = 0 }

pub split_at-requires : goal.split_at-requires
split_at-requires c =
    omega (arith, c.place_among.ensures, prefix_len-le-length (is_under address_of (get_or c.args.addrs.now c.loop-addr.addr-index any)) c.loop-addr.rest.now)

pub loop-addr-preserved : goal.loop-addr-preserved
loop-addr-preserved c =
    let addrs : List Addr = c.args.addrs.now in
    let i = c.loop-addr.addr-index in
    let rest : List Peer = c.loop-addr.rest.now in
    let whole : List Peer = with_all_new c.args.big addrs c.args.peers.now in
    let n = c.place_among.result in
    let so_far = subst (λ left. Merging c.args.big whole c.loop-addr.all.items left rest) (drop-cons addrs i any c.loop-addr-test.true) c.loop-addr.invariant in
    let made = c.in_ok-push.ensures.items
    ∙ (ap (λ l. l ++ c.fresh.result ∷ []) (c.in_ok-extend_from_slice.ensures.items ∙ ap (λ l. c.loop-addr.all.items ++ l) c.split_at.ensures.front)
    ∙ ap (λ p. (c.loop-addr.all.items ++ take n rest) ++ p ∷ []) c.fresh.ensures) in
    rw (add-one, c.split_at.ensures.back)
    (merging-next c.args.big whole c.loop-addr.all.items _ (get_or addrs i any) (drop (suc i) addrs) rest n so_far c.place_among.ensures made)
