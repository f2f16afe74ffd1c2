use Rattle.std.proofs.Common.{◌≡◌, ◌++◌, sym, ap, subst, ◌∙◌}
use Rattle.machine.specs.Deadlines.{deadlines_of}
use Rattle.machine.specs.Govern.{link_of}
use Rattle.machine.specs.Machine.{Entry}
use Rattle.net_base.specs.Shared.{nothing_undecoded}
use Rattle.net_base.specs.declared.connection.Cid.{Cid}
use Rattle.net_base.specs.declared.connection.Facts.{Facts}
use Rattle.timer_queue.specs.Queue.{is_enrolled}
use Rattle.timer_queue.specs.Timers.{HaveSame, without_cid}
use Rattle.conn_table.specs.Rosters.{facts_kept}
use Rattle.connections.specs.Kept.{standing}
use Rattle.connections.specs.Timed.{IsTimed}
use Rattle.connections.specs.Talks.{entry_of, entries_of}
use Rattle.connections.specs.declared.talk.Talk.{Talk}
use Rattle.connections.proofs.LinkedTurns.{has_link, linked_again, linked_still}
use Rattle.connections.proofs.Reading.{Read, read, placed_facts, placed_talk, seen, sighted, same_sight}
use Rattle.connections.proofs.TimedTurns.{own_id, has_room, timed_again}
use Rattle.connections.proofs.kept.Kept.follow.Goals.{After-at-talk, After-retime, After-link_of}
use Rattle.connections.proofs.kept.Kept.follow.Goals as goal

pub at-facts-requires : goal.at-facts-requires
at-facts-requires c = placed_facts c.args.cid c.args.place c.args.self.now c.requires.whole c.requires.timed.stands c.requires.place

pub at-talk-requires : goal.at-talk-requires
at-talk-requires c = placed_talk c.args.cid c.args.place c.args.self.now c.requires.whole c.requires.timed.stands c.requires.place

what_stands : (c : After-at-talk) → Read c.args.cid c.args.self.now c.at-facts.result.now c.at-talk.result.now
what_stands c = read c.args.cid c.args.place c.args.self.now c.at-facts.result.now c.at-talk.result.now c.requires.whole c.requires.timed.stands c.requires.place
    c.at-facts.ensures c.at-talk.ensures

pub retime-requires : goal.retime-requires
retime-requires c =
    let r = what_stands (goal.at.retime-requires c).After-at-talk in
    let own : r.it.facts.cid ≡ c.args.cid =
    own_id c.args.cid (entries_of (facts_kept c.args.self.now.roster) c.args.self.now.talks) (entry_of r.it.facts r.it.talk) r.it.at.entry_there in
    ap (λ (i : Cid). is_enrolled i c.args.timers.now) (ap (λ (f : Facts). f.cid) r.facts_are ∙ own)
    ∙ has_room c.args.cid (standing c.args.self.now) c.args.timers.now c.requires.timed

link_is : (c : After-link_of) → (r : Read c.args.cid c.args.self.now c.at-facts.result.now c.at-talk.result.now) →
    c.link_of.result ≡ link_of (entry_of r.it.facts r.it.talk)
link_is c r =
    c.link_of.ensures ∙ seen c.at-facts.result.now r.it.facts c.at-talk.result.now r.it.talk r.facts_are r.talk_is

pub set-requires : goal.set-requires
set-requires c =
    let r = what_stands (goal.at.set-requires c).After-at-talk in
    let is = link_is (goal.at.set-requires c).After-link_of r in
    has_link c.args.cid (standing c.args.self.now) c.args.links.now (entry_of r.it.facts r.it.talk) c.link_of.result c.requires.linked
    r.it.at.entry_there is

still_timed : (c : After-retime) → Read c.args.cid c.args.self.now c.at-facts.result.now c.at-talk.result.now → IsTimed (standing c.args.self.now) c.retime.new.timers
still_timed c r =
    let e : Entry = entry_of r.it.facts r.it.talk in
    let old = c.args.timers.now.timers in
    let new = c.retime.new.timers.timers in
    let of_facts : HaveSame new
    (deadlines_of (record { facts = r.it.facts; undecoded = nothing_undecoded; owed = c.at-talk.result.now.replies }) ++ without_cid r.it.facts.cid old) =
    subst (λ (f : Facts). HaveSame new
    (deadlines_of (record { facts = f; undecoded = nothing_undecoded; owed = c.at-talk.result.now.replies }) ++ without_cid f.cid old)) r.facts_are c.retime.ensures.timers in
    let of_talk : HaveSame new (deadlines_of e ++ without_cid r.it.facts.cid old) =
    subst (λ (t : Talk). HaveSame new
    (deadlines_of (record { facts = r.it.facts; undecoded = nothing_undecoded; owed = t.replies }) ++ without_cid r.it.facts.cid old)) r.talk_is of_facts in
    timed_again c.args.cid (standing c.args.self.now) c.args.timers.now c.retime.new.timers e c.requires.timed
    r.it.at.entry_there c.retime.ensures.enrolled of_talk c.retime.ensures.orderly

pub returns-clause-timed : goal.returns-clause-timed
returns-clause-timed c = still_timed (goal.at.returns-clause-timed c).After-retime (what_stands (goal.at.returns-clause-timed c).After-at-talk)

pub returns-then-eq-clause-timed : goal.returns-then-eq-clause-timed
returns-then-eq-clause-timed c = still_timed (goal.at.returns-then-eq-clause-timed c).After-retime (what_stands (goal.at.returns-then-eq-clause-timed c).After-at-talk)

pub returns-clause-linked : goal.returns-clause-linked
returns-clause-linked c =
    let r = what_stands (goal.at.returns-clause-linked c).After-at-talk in
    let is = link_is (goal.at.returns-clause-linked c).After-link_of r in
    linked_again c.args.cid (standing c.args.self.now) c.args.links.now c.set.new.self (entry_of r.it.facts r.it.talk) c.link_of.result c.requires.linked
    r.it.at.entry_there is c.set.ensures

pub returns-then-eq-clause-linked : goal.returns-then-eq-clause-linked
returns-then-eq-clause-linked c =
    let r = what_stands (goal.at.returns-then-eq-clause-linked c).After-at-talk in
    linked_still c.args.seen c.args.cid (standing c.args.self.now) c.args.links.now (entry_of r.it.facts r.it.talk) c.requires.stays r.it.at.entry_there
    (sym (sighted c.at-facts.result.now r.it.facts c.at-talk.result.now r.it.talk r.facts_are r.talk_is) ∙ (sym c.sight_of.ensures ∙ same_sight c.sight_of.result c.args.seen (sym c.eq.ensures ∙ c.if-eq.true)))
