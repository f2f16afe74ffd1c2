use Rattle.std.proofs.Common.{◌≡◌, IfSome, sym, subst, ◌∙◌}
use Rattle.connections.specs.Linked.{sight_of}
use Rattle.connections.proofs.Reading.{placed_facts, placed_talk, read, sighted}
use Rattle.connections.proofs.kept.Kept.sight.Goals as goal

pub at-facts-requires : goal.at-facts-requires
at-facts-requires c = placed_facts c.args.cid c.args.place c.args.self.now c.requires.whole c.requires.stands c.requires.place

pub at-talk-requires : goal.at-talk-requires
at-talk-requires c = placed_talk c.args.cid c.args.place c.args.self.now c.requires.whole c.requires.stands c.requires.place

pub returns : goal.returns
returns c =
    let r = read c.args.cid c.args.place c.args.self.now c.at-facts.result.now c.at-talk.result.now c.requires.whole c.requires.stands c.requires.place
    c.at-facts.ensures c.at-talk.ensures in
    subst (λ o. IfSome o (λ e. c.sight_of.result ≡ sight_of e)) (sym r.it.at.entry_there)
    (c.sight_of.ensures ∙ sighted c.at-facts.result.now r.it.facts c.at-talk.result.now r.it.talk r.facts_are r.talk_is)
