-- What follows a step of a connection: its timers, and what the rules see of it.
use Rattle.std.proofs.Common.{◌≡◌, ◌++◌, true, List, Some, IsSome, IfSome, refl, sym, ap, subst, ◌∙◌, inl, inr}
use Rattle.conn_table.specs.Conditions.{after_step}
use Rattle.conn_table.specs.declared.step.Step.{Step}
use Rattle.conn_table.proofs.StateFacts.{step_keeps}
use Rattle.govern_rules.specs.declared.link.Link.{Link}
use Rattle.links.specs.Link.{place_of}
use Rattle.links.specs.Rows.{stands_at}
use Rattle.machine.specs.Deadlines.{deadlines_of}
use Rattle.machine.specs.Govern.{link_of}
use Rattle.machine.specs.Machine.{Entry, Owed}
use Rattle.net_base.specs.Shared.{nothing_undecoded}
use Rattle.net_base.specs.declared.connection.Cid.{Cid}
use Rattle.net_base.specs.declared.connection.Facts.{Facts}
use Rattle.timer_queue.specs.Queue.{Queue, IsOrderly, is_enrolled}
use Rattle.timer_queue.specs.Timers.{HaveSame, has_timer, is_of, without_cid}
use Rattle.connections.specs.Linked.{IsLinked, IsLinkedBut, IsLinkedIf, IsRelinked, sight_of}
use Rattle.connections.specs.Standing.{Standing, entry_with, Turns}
use Rattle.connections.specs.Steps.{stepped}
use Rattle.connections.specs.Timed.{IsTimed, IsTimedBut, HasDeadlinesOf}
use Rattle.connections.proofs.LinkedTurns.{has_link, linked_again, linked_but, linked_if, linked_still}
use Rattle.connections.proofs.Stepping.{keeps_id}
use Rattle.connections.proofs.TimedTurns.{has_room, own_deadlines, own_id, timed_again, turned_but, turned_there}

abbrev pub known : Facts → List Owed → Entry
known f owed = record { facts = f; undecoded = nothing_undecoded; owed = owed }

-- a connection made a step, and this is known of it before and after
pub record HasStepped (step : Step) (cid : Cid) (old new : Standing) (was is : Facts) (owed : List Owed) : Type 0 where
  pub before : Entry
  pub found : entry_with cid.0 old ≡ Some before
  pub was_is : was ≡ before.facts
  pub owed_are : owed ≡ before.owed
  pub moved : is ≡ after_step step was
  pub turns : Turns cid.0 (stepped step) old new

module _ (step : Step) (cid : Cid) (old new : Standing) (was is : Facts) (owed : List Owed) (h : HasStepped step cid old new was is owed) where
  there : IsSome (entry_with cid.0 old)
  there = subst IsSome (sym h.found) refl

  own_before : h.before.facts.cid ≡ cid
  own_before = own_id cid old.entries h.before h.found

  now : is ≡ (stepped step h.before).facts
  now = h.moved ∙ ap (after_step step) h.was_is

  pub own : is.cid ≡ cid
  own = ap (λ (f : Facts). f.cid) now ∙ (keeps_id step h.before.facts ∙ own_before)

  found_now : entry_with cid.0 new ≡ Some (stepped step h.before)
  found_now = turned_there cid (stepped step) old new h.before h.found (keeps_id step h.before.facts ∙ own_before) h.turns

  but : (queue : Queue) → IsTimed old queue → IsTimedBut cid new queue
  but queue timed = turned_but cid (stepped step) old new queue timed there (λ e. keeps_id step e.facts) h.turns

  -- ---- its timers

  pub enrolled : (queue : Queue) → IsTimed old queue → is_enrolled is.cid queue ≡ true
  enrolled queue timed = ap (λ (c : Cid). is_enrolled c queue) own ∙ has_room cid new queue (but queue timed)

  pub had : (queue : Queue) → IsTimed old queue → HasDeadlinesOf (known was owed) queue.timers
  had queue timed = λ d its.
      own_deadlines cid old queue h.before timed h.found d (subst (λ (c : Cid). is_of c d ≡ true) (ap (λ (f : Facts). f.cid) h.was_is ∙ own_before) its)
      ∙ sym (λ i. has_timer d (deadlines_of (known (h.was_is i) (h.owed_are i))))

  pub retimed : (queue after : Queue) → IsTimed old queue → after.enrolled ≡ queue.enrolled →
      HaveSame after.timers (deadlines_of (known is owed) ++ without_cid is.cid queue.timers) → IsOrderly after → IsTimed new after
  retimed queue after timed same_ids same orderly =
      timed_again cid new queue after (stepped step h.before) (but queue timed) found_now same_ids
      (subst (λ (f : Facts). HaveSame after.timers (deadlines_of (known f h.before.owed) ++ without_cid f.cid queue.timers)) now
      (subst (λ os. HaveSame after.timers (deadlines_of (known is os) ++ without_cid is.cid queue.timers)) h.owed_are same)) orderly

  -- ---- its link

  link_is : link_of (known is owed) ≡ link_of (stepped step h.before)
  link_is = λ i. link_of (known (now i) (h.owed_are i))

  but_linked : (queue : Queue) (links : List Link) → IsTimed old queue → IsLinked old links → IsLinkedBut cid new links
  but_linked queue links timed linked = linked_but cid (stepped step) old new queue links timed linked there (λ e. step_keeps step e.facts) h.turns

  pub linked_there : (queue : Queue) (links : List Link) → IsTimed old queue → IsLinked old links → stands_at (place_of (link_of (known is owed))) links ≡ true
  linked_there queue links timed linked =
      has_link cid new links (stepped step h.before) (link_of (known is owed)) (but_linked queue links timed linked) found_now link_is

  pub relinked : (queue : Queue) (links after : List Link) → IsTimed old queue → IsLinked old links →
      IsRelinked (known was owed) (known is owed) links after → IsLinked new after
  relinked queue links after timed linked (inl (same, stays)) =
      let unseen : IsLinkedIf (sight_of h.before) cid new links =
      linked_if cid (stepped step) (sight_of h.before) old new queue links timed linked there (λ e. step_keeps step e.facts)
      (subst (λ o. IfSome o (λ e. sight_of h.before ≡ sight_of e)) (sym h.found) refl) h.turns in
      subst (IsLinked new) (sym stays)
      (linked_still (sight_of h.before) cid new links (stepped step h.before) unseen found_now
      (sym (λ i. sight_of (known (now i) (h.owed_are i))) ∙ (same ∙ λ i. sight_of (known (h.was_is i) (h.owed_are i)))))
  relinked queue links after timed linked (inr put) =
      linked_again cid new links after (stepped step h.before) (link_of (known is owed)) (but_linked queue links timed linked) found_now link_is put
