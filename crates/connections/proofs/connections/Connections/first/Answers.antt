use Rattle.std.proofs.Common.{◌≡◌, List, Some, IfSome, slice_get, get_or, sym, ap, subst, ◌∙◌}
use Rattle.std.proofs.lemmas.Option.{get_or_from_slice_get}
use Rattle.conn_table.specs.Finds.{id_place}
use Rattle.conn_table.specs.Rosters.{facts_kept}
use Rattle.mux_segment.specs.Lent.{lent}
use Rattle.mux_segment.specs.Protocols.{node_limits}
use Rattle.mux_segment.specs.Stream.{FedBy, fed_by}
use Rattle.connections.specs.Standing.{entry_with, fed_of}
use Rattle.connections.specs.Talks.{entry_of}
use Rattle.connections.specs.declared.talk.Talk.{Talk}
use Rattle.connections.proofs.Stepping.{any_in, talk_inside}
use Rattle.connections.proofs.TalkFeeds.{fed_of-talk, some_weaker}
use Rattle.connections.proofs.TalkTurns.{Any}
use Rattle.connections.proofs.TimedTurns.{stands_in}
use Rattle.connections.proofs.connections.Connections.first.Goals as goal

pub at-requires : goal.at-requires
at-requires c =
    talk_inside Any c.args.cid.0 c.place_of-place.result c.self.inside.kept
    (any_in c.args.cid.0 c.self.inside.kept c.self.invariant.0 (stands_in c.args.cid _ _ c.self.view_is c.requires)) c.place_of-place.ensures

pub returns : goal.returns
returns c =
    let bytes = c.args.bytes.now in
    let it = any_in c.args.cid.0 c.self.inside.kept c.self.invariant.0 (stands_in c.args.cid _ _ c.self.view_is c.requires) in
    let talks : List Talk = c.self.inside.kept.talks in
    let there : c.at.result.now ≡ it.talk = c.at.ensures
    ∙ (ap (λ n. get_or talks n c.at.result.now) c.place_of-place.ensures
    ∙ get_or_from_slice_get talks (id_place c.args.cid.0 (facts_kept c.self.inside.kept.roster)) it.talk c.at.result.now it.at.talk_there) in
    let fed : fed_by node_limits c.at.result.now.cutter bytes ≡ fed_of bytes (entry_of it.facts it.talk) =
    ap (λ (t : Talk). fed_by node_limits t.cutter bytes) there ∙ fed_of-talk bytes it.facts it.talk it.at.belongs in
    some_weaker _ _ c.first.result (λ item h.
    subst (λ s. IfSome (entry_with c.args.cid.0 s) (λ e. slice_get (fed_of bytes e).items 0 ≡ Some (lent item))) c.self.view_is
    (subst (λ o. IfSome o (λ e. slice_get (fed_of bytes e).items 0 ≡ Some (lent item))) (sym it.at.entry_there)
    (subst (λ (b : FedBy). slice_get b.items 0 ≡ Some (lent item)) fed h))) c.first.ensures
