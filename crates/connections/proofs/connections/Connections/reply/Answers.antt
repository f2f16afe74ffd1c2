use Rattle.std.proofs.Common.{◌≡◌, ◌==◌, List, IfSome, find, get_or, sym, ap, subst, ◌∙◌}
use Rattle.std.specs.Option.{option_map}
use Rattle.std.proofs.lemmas.Option.{get_or_from_slice_get}
use Rattle.conn_table.specs.Finds.{id_place}
use Rattle.conn_table.specs.Rosters.{facts_kept}
use Rattle.machine.specs.Replies.{reply_on}
use Rattle.connections.specs.Owed.{reply_of}
use Rattle.connections.specs.Standing.{entry_with}
use Rattle.connections.specs.declared.talk.Talk.{Talk}
use Rattle.connections.proofs.Stepping.{any_in, talk_inside}
use Rattle.connections.proofs.TalkTurns.{Any}
use Rattle.connections.proofs.TimedTurns.{stands_in}
use Rattle.connections.proofs.connections.Connections.reply.Goals as goal

pub at-requires : goal.at-requires
at-requires c =
    talk_inside Any c.args.cid.0 c.place_of-place.result c.self.inside.kept
    (any_in c.args.cid.0 c.self.inside.kept c.self.invariant.0 (stands_in c.args.cid _ _ c.self.view_is c.requires)) c.place_of-place.ensures

pub returns : goal.returns
returns c =
    let it = any_in c.args.cid.0 c.self.inside.kept c.self.invariant.0 (stands_in c.args.cid _ _ c.self.view_is c.requires) in
    let talks : List Talk = c.self.inside.kept.talks in
    let there : c.at.result.now ≡ it.talk = c.at.ensures
    ∙ (ap (λ n. get_or talks n c.at.result.now) c.place_of-place.ensures
    ∙ get_or_from_slice_get talks (id_place c.args.cid.0 (facts_kept c.self.inside.kept.roster)) it.talk c.at.result.now it.at.talk_there) in
    let said : c.on.result ≡ option_map reply_of (find (λ o. o.protocol == c.args.protocol) it.talk.replies) =
    c.on.ensures ∙ ap (λ (t : Talk). option_map reply_of (find (λ o. o.protocol == c.args.protocol) t.replies)) there in
    subst (λ s. IfSome (entry_with c.args.cid.0 s) (λ e. c.on.result ≡ option_map reply_of (reply_on c.args.protocol e))) c.self.view_is
    (subst (λ o. IfSome o (λ e. c.on.result ≡ option_map reply_of (reply_on c.args.protocol e))) (sym it.at.entry_there) said)
