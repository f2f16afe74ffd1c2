use Rattle.std.proofs.Common.{◌≡◌, ℕ, ◌++◌, ◌∷◌, [], ◌&&◌, Bool, List, sym, ap, ◌∙◌, arith}
use Rattle.std.proofs.lemmas.List.{append_assoc, append-nil}
use Rattle.net_base.specs.declared.peer.Peer.{Peer}
use Rattle.peer_book.specs.Book.{is_of}
use Rattle.govern_rules.specs.Links.{is_pending}
use Rattle.govern_rules.specs.Search.{suits}
use Rattle.govern_rules.specs.declared.seen.Seen.TheVariants.{OnItsWay, Suits, Neither}
use Rattle.govern_rules.proofs.Seeing.{count-more, filter-more, tells}
use Rattle.govern_rules.proofs.promotable.take_promotable.Goals as goal
use Rattle.govern_rules.proofs.promotable.take_promotable.Goals.{in-OnItsWay, in-Suits+in_ok-push-in-Suits, in-Neither}

pushed : (before kept new cands : List Peer) (p : Peer) → new ≡ cands ++ p ∷ [] → cands ≡ before ++ kept → new ≡ before ++ (kept ++ p ∷ [])
pushed before kept new cands p push is = push ∙ (ap (λ l. l ++ p ∷ []) is ∙ append_assoc before kept (p ∷ []))

pub loop-peer-preserved : goal.loop-peer-preserved
loop-peer-preserved c =
    let search = c.args.search.now in
    let peers : List Peer = c.args.peers.now in
    let i = c.loop-peer.peer-index in
    let way : Peer → Bool = λ p. is_of search.big p && is_pending search.view.now.links p.addr in
    let walk = c.look.ensures.same ∙ c.loop-peer.invariant.walk in
    elim c.match-look.branch [
      | in-OnItsWay w ↦
          let told = tells search _ OnItsWay c.requires.promoting (sym w.in-OnItsWay.is ∙ c.look.ensures.value) in
          let counted = count-more peers i _ c.loop-peer-test.true way _ told.0 in
          record {
            cands = w.cands-is ∙ (c.loop-peer.invariant.cands ∙ ap (λ l. c.args.cands.now ++ l) (sym (unfiltered i (filter-more peers i _ c.loop-peer-test.true (suits search) _ told.1))));
            walk = walk;
            pending = omega (arith, w.pending-is, counted, c.loop-peer.invariant.pending);
            few = omega (arith, w.pending-is, c.loop-peer.invariant.few);
          }
      | in-Suits+in_ok-push-in-Suits w ↦
          let told = tells search _ Suits c.requires.promoting (sym w.in-Suits.is ∙ c.look.ensures.value) in
          let counted = count-more peers i _ c.loop-peer-test.true way _ told.0 in
          record {
            cands = w.cands-is
                ∙ (pushed c.args.cands.now _ _ _ _ w.in_ok-push-in-Suits.ensures c.loop-peer.invariant.cands
                ∙ ap (λ l. c.args.cands.now ++ l) (sym (filter-more peers i _ c.loop-peer-test.true (suits search) _ told.1)));
            walk = walk;
            pending = omega (arith, w.pending-is, counted, c.loop-peer.invariant.pending);
            few = omega (arith, w.pending-is, c.loop-peer.invariant.few);
          }
      | in-Neither w ↦
          let told = tells search _ Neither c.requires.promoting (sym w.in-Neither.is ∙ c.look.ensures.value) in
          let counted = count-more peers i _ c.loop-peer-test.true way _ told.0 in
          record {
            cands = w.cands-is ∙ (c.loop-peer.invariant.cands ∙ ap (λ l. c.args.cands.now ++ l) (sym (unfiltered i (filter-more peers i _ c.loop-peer-test.true (suits search) _ told.1))));
            walk = walk;
            pending = omega (arith, w.pending-is, counted, c.loop-peer.invariant.pending);
            few = omega (arith, w.pending-is, c.loop-peer.invariant.few);
          }
    ]
  where
    unfiltered : (i : ℕ) → {xs ys : List Peer} → xs ≡ ys ++ [] → xs ≡ ys
    unfiltered i h = h ∙ append-nil _
