use Rattle.std.proofs.Common.{◌≡◌, ◌+◌, ◌++◌, true, ap, subst, sym, ◌∙◌}
use Rattle.std.specs.List.{AllByRecursion}
use Rattle.conn_state.specs.State.{facts_of}
use Rattle.conn_state.specs.Use.{live_at}
use Rattle.conn_table.specs.Index.{placed_of}
use Rattle.conn_table.specs.declared.placed.Placed.{Placed}
use Rattle.machine.specs.Deadlines.{deadlines_of}
use Rattle.machine.specs.Govern.{link_of}
use Rattle.machine.specs.Machine.{fresh_entry}
use Rattle.net_base.specs.Shared.{nothing_undecoded}
use Rattle.net_base.specs.declared.connection.Cid.{Cid}
use Rattle.net_base.specs.declared.connection.Facts.{Facts}
use Rattle.timer_queue.specs.Queue.{with_enrolled}
use Rattle.timer_queue.specs.Timers.{cid_below, HaveSame, without_cid}
use Rattle.links.specs.Link.{place_of}
use Rattle.links.specs.Rows.{stands_at, without_link}
use Rattle.links.proofs.LinkEdits.{stands-new}
use Rattle.connections.specs.Kept.{standing}
use Rattle.connections.specs.Linked.{IsLinked}
use Rattle.connections.specs.Standing.{Standing, facts_in, come}
use Rattle.connections.specs.Timed.{IsTimed, ids_in}
use Rattle.connections.proofs.LinkedTurns.{no_link, come_linked, left_linked, found_last}
use Rattle.connections.proofs.Stepping.{all_entered, facts_are}
use Rattle.connections.proofs.TimedTurns.{come_but, left_again, timed_again, has_room}
use Rattle.connections.proofs.connections.Connections.enter.Goals.{After-self, After-link_of}
use Rattle.connections.proofs.connections.Connections.enter.Goals as goal

next_is : (c : After-self) → c.facts-facts.result.cid.0 ≡ c.self.inside.kept.roster.given + 1
next_is c = ap (λ (f : Facts). f.cid.0) c.facts-facts.ensures.value ∙ (c.requires.next ∙ ap (λ (s : Standing). s.next_id) (sym c.self.view_is))

-- its id is above all others
below : (c : After-self) → AllByRecursion (λ i. cid_below i c.facts-facts.result.cid ≡ true) (ids_in (standing c.self.inside.kept))
below c = all_entered c.self.inside.kept c.facts-facts.result.cid c.self.invariant.0 (next_is c)

-- what the rules see of it: nothing is owed yet
link_is : (c : After-link_of) → c.link_of.result ≡ link_of (fresh_entry c.facts-facts.result)
link_is c =
    c.link_of.ensures
    ∙ ap (λ o. link_of (record { facts = c.facts-facts.result; undecoded = nothing_undecoded; owed = o })) c.new-nothing_owed.ensures

placed_is : (c : After-link_of) → place_of c.link_of.result ≡ placed_of c.facts-facts.result
placed_is c = ap place_of (link_is c)

pub enroll-requires : goal.enroll-requires
enroll-requires c =
    ap (λ (p : Placed). stands_at p c.self.inside.links) (placed_is (goal.at.enroll-requires c).After-link_of)
    ∙ no_link (placed_of c.facts-facts.result) (standing c.self.inside.kept) c.self.inside.links c.self.invariant.1.1
    (below (goal.at.enroll-requires c).After-self)

pub enter-requires-clause-alone : goal.enter-requires-clause-alone
enter-requires-clause-alone c =
    ap (live_at (facts_of c.args.state).addr) (sym (facts_are c.self.inside.kept c.self.invariant.0))
    ∙ (ap (λ s. live_at (facts_of c.args.state).addr (facts_in s)) c.self.view_is ∙ c.requires.alone)

pub retime-requires : goal.retime-requires
retime-requires c =
    let cid_is = ap (λ (p : Placed). p.cid) (placed_is (goal.at.retime-requires c).After-link_of) in
    let f = c.facts-facts.result in
    has_room f.cid (come f (standing c.self.inside.kept)) c.enroll.new.timers
    (come_but f (standing c.self.inside.kept) c.self.inside.timers c.enroll.new.timers c.self.invariant.1.0
    (below (goal.at.retime-requires c).After-self)
    (c.in_ok-enroll.ensures.timers ∙ ap (λ i. with_enrolled i c.self.inside.timers) cid_is) c.in_ok-enroll.ensures.orderly)

pub invariant_of-self-in-Ok : goal.invariant_of-self-in-Ok
invariant_of-self-in-Ok c =
    let d = (goal.at.invariant_of-self-in-Ok c).After-link_of in
    let under = below (goal.at.invariant_of-self-in-Ok c).After-self in
    let f = c.facts-facts.result in
    let s = standing c.self.inside.kept in
    let cid_is = ap (λ (p : Placed). p.cid) (placed_is d) in
    let come_is = c.in-Ok.ensures.ok ∙ ap (λ g. come g s) (sym c.facts-facts.ensures.value) in
    let same : HaveSame c.retime.new.timers.timers (deadlines_of (fresh_entry f) ++ without_cid f.cid c.enroll.new.timers.timers) =
    subst (λ o. HaveSame c.retime.new.timers.timers
    (deadlines_of (record { facts = f; undecoded = nothing_undecoded; owed = o }) ++ without_cid f.cid c.enroll.new.timers.timers))
    c.new-nothing_owed.ensures c.retime.ensures.timers in (
      c.in-Ok.ensures.whole,
      (
        subst (λ t. IsTimed t c.retime.new.timers) (sym come_is)
            (timed_again f.cid (come f s) c.enroll.new.timers c.retime.new.timers (fresh_entry f)
            (come_but f s c.self.inside.timers c.enroll.new.timers c.self.invariant.1.0 under
            (c.in_ok-enroll.ensures.timers ∙ ap (λ i. with_enrolled i c.self.inside.timers) cid_is) c.in_ok-enroll.ensures.orderly)
            (found_last (fresh_entry f) s.entries under) c.retime.ensures.enrolled same c.retime.ensures.orderly),
        subst (λ t. IsLinked t c.enroll.new.links) (sym come_is)
            (come_linked f c.link_of.result s c.self.inside.links c.enroll.new.links c.self.invariant.1.1 (link_is d) c.in_ok-enroll.ensures.links),
      ),
    )

pub leave-requires-in-Err : goal.leave-requires-in-Err
leave-requires-in-Err c =
    ap (λ (p : Placed). stands_at p c.enroll.new.links) (sym (placed_is (goal.at.leave-requires-in-Err c).After-link_of))
    ∙ (ap (stands_at (place_of c.link_of.result)) c.in_ok-enroll.ensures.links ∙ stands-new c.link_of.result c.self.inside.links)

pub invariant_of-self-in-Err : goal.invariant_of-self-in-Err
invariant_of-self-in-Err c =
    let d = (goal.at.invariant_of-self-in-Err c).After-link_of in
    let under = below (goal.at.invariant_of-self-in-Err c).After-self in
    let s = standing c.self.inside.kept in
    let cid_is = ap (λ (p : Placed). p.cid) (placed_is d) in (
      c.in-Err.ensures.whole,
      (
        subst (λ t. IsTimed t c.leave.new.self) (sym c.in-Err.ensures.err)
            (left_again c.facts-facts.result.cid s c.self.inside.timers c.enroll.new.timers c.leave.new.self c.self.invariant.1.0 under
            (c.in_ok-enroll.ensures.timers ∙ ap (λ i. with_enrolled i c.self.inside.timers) cid_is) c.leave.ensures.gone c.leave.ensures.orderly),
        subst (λ t. IsLinked t c.leave-in-Err.new.self) (sym c.in-Err.ensures.err)
            (left_linked c.link_of.result s c.self.inside.links c.enroll.new.links c.leave-in-Err.new.self c.self.invariant.1.1
            (subst (λ (i : Cid). AllByRecursion (λ j. cid_below j i ≡ true) (ids_in s)) (sym cid_is) under) c.in_ok-enroll.ensures.links
            (c.leave-in-Err.ensures ∙ ap (λ (p : Placed). without_link p c.enroll.new.links) (sym (placed_is d)))),
      ),
    )
