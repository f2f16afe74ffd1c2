use Rattle.std.proofs.Common.{◌≡◌, ◌+◌, ◌++◌, ◌∷◌, [], length, ℕ, Option, sym, ap, subst, ◌∙◌, arith}
use Rattle.std.specs.List.{remove}
use Rattle.accept_gate.specs.Prune.{rank_of}
use Rattle.conn_state.specs.State.{facts_of}
use Rattle.conn_table.specs.Rosters.{facts_kept}
use Rattle.timer_queue.proofs.Outcomes.{on_err}
use Rattle.connections.specs.Kept.{table_of, standing}
use Rattle.connections.specs.Ordered.{row_of}
use Rattle.connections.specs.Talks.{entries_of, AreTalksOf}
use Rattle.net_base.specs.declared.connection.Cid.{Cid}
use Rattle.net_base.specs.declared.connection.Facts.{Facts}
use Rattle.prune_order.specs.Order.{Order}
use Rattle.prune_order.specs.declared.ranked.Ranked.{Ranked}
use Rattle.connections.proofs.OrderTurns.{ordered_same, ordered_come}
use Rattle.connections.proofs.Stepping.{stands, remove_last, err_said}
use Rattle.connections.proofs.TalkTurns.{IsComing, coming, ok_said, when_ok}
use Rattle.connections.proofs.kept.Kept.enter.Goals.{Else-is_err, Then-is_err, After-remove}
use Rattle.connections.proofs.kept.Kept.enter.Goals as goal

abbrev row_at : Cid → Option ℕ → Ranked
row_at cid rank = record { cid = cid; rank = rank }

comes : (c : Else-is_err) → IsComing (facts_of c.args.state) (standing c.args.self.now)
    (table_of c.args.self.now.settings c.enter-entered.new.self) c.push.new.self
comes c =
    let facts = ok_said _ c.enter-entered.result (sym c.is_err.ensures.value ∙ c.if-is_err.false) c.enter-entered.ensures.ok in
    let given = ok_said _ c.enter-entered.result (sym c.is_err.ensures.value ∙ c.if-is_err.false) c.enter-entered.ensures.given in
    coming (facts_of c.args.state) (table_of c.args.self.now.settings c.args.self.now.roster) _ c.args.self.now.talks _ (stands c.args.self.now c.requires.whole)
    (λ i. record { settings = c.args.self.now.settings; facts = facts i; given = given i })
    (c.in_ok-push.ensures.ok ∙ ap (λ t. c.args.self.now.talks ++ t ∷ []) c.new.ensures) c.requires.next

pub returns-else-is_err-clause-whole : goal.returns-else-is_err-clause-whole
returns-else-is_err-clause-whole c = record {
  settings_sound = c.requires.whole.settings_sound;
  roster_kept = c.enter-entered.ensures.kept;
  talks_are = (comes (goal.at.returns-else-is_err-clause-whole c).Else-is_err).stands.talks_are;
  ordered =
      let f = facts_of c.args.state in
      let was = c.args.self.now in
      let went = sym c.is_err.ensures.value ∙ c.if-is_err.false in
      let row : row_at c.as_facts.result.now.cid c.rank-rank.result ≡ row_of f =
      ap (λ (g : Facts). row_at g.cid c.rank-rank.result) c.as_facts.ensures.value
      ∙ ap (row_at f.cid) (c.rank-rank.ensures ∙ ap rank_of c.as_facts-2.ensures.value) in
      ordered_come f (facts_kept was.roster) _ was.roster.given _ was.order c.come.new.self c.requires.whole.ordered
      (ok_said _ c.enter-entered.result went c.enter-entered.ensures.ok) (ok_said _ c.enter-entered.result went c.enter-entered.ensures.given) c.requires.next
      (ap (λ (o : Order). o.rows) c.come.ensures ∙ (ap (λ rs. rs ++ row_at c.as_facts.result.now.cid c.rank-rank.result ∷ []) c.make_room.ensures.rows
      ∙ ap (λ r. was.order.rows ++ r ∷ []) row))
      (ap (λ (o : Order). o.last) c.come.ensures ∙ ap (λ (g : Facts). g.cid) c.as_facts.ensures.value);
}

pub returns-else-is_err-clause-ok : goal.returns-else-is_err-clause-ok
returns-else-is_err-clause-ok c = when_ok _ c.enter-entered.result (comes (goal.at.returns-else-is_err-clause-ok c).Else-is_err).comes

same_facts : (c : Then-is_err) → facts_kept c.enter-entered.new.self ≡ facts_kept c.args.self.now.roster
same_facts c = err_said _ c.enter-entered.result (sym c.is_err.ensures.value ∙ c.if-is_err.true) c.enter-entered.ensures.err

same_talks : (c : After-remove) → c.remove.new.self ≡ c.args.self.now.talks
same_talks c =
    c.remove.ensures.items
    ∙ (ap (remove c.push.new.self) c.len-place.ensures
    ∙ (ap (λ l. remove l (length c.args.self.now.talks)) c.in_ok-push.ensures.ok ∙ remove_last c.args.self.now.talks c.new.result))

pub returns-then-is_err-clause-whole : goal.returns-then-is_err-clause-whole
returns-then-is_err-clause-whole c = record {
  settings_sound = c.requires.whole.settings_sound;
  roster_kept = c.enter-entered.ensures.kept;
  talks_are = subst (λ fs. AreTalksOf fs c.remove.new.self) (sym (same_facts (goal.at.returns-then-is_err-clause-whole c).Then-is_err))
      (subst (AreTalksOf (facts_kept c.args.self.now.roster)) (sym (same_talks (goal.at.returns-then-is_err-clause-whole c).After-remove))
      c.requires.whole.talks_are);
  ordered =
      let was = c.args.self.now in
      let refused = sym c.is_err.ensures.value ∙ c.if-is_err.true in
      ordered_same (facts_kept was.roster) _ was.roster.given _ was.order c.make_room.new.self c.requires.whole.ordered
      (same_facts (goal.at.returns-then-is_err-clause-whole c).Then-is_err) (err_said _ c.enter-entered.result refused c.enter-entered.ensures.none_given)
      c.make_room.ensures.rows c.make_room.ensures.last;
}

pub returns-then-is_err-clause-err : goal.returns-then-is_err-clause-err
returns-then-is_err-clause-err c =
    let given = err_said _ c.enter-entered.result (sym c.is_err.ensures.value ∙ c.if-is_err.true) c.enter-entered.ensures.none_given in
    on_err c.enter-entered.result _ (λ i. record {
      settings = c.args.self.now.settings;
      entries = entries_of (same_facts (goal.at.returns-then-is_err-clause-err c).Then-is_err i)
          (same_talks (goal.at.returns-then-is_err-clause-err c).After-remove i);
      next_id = given i + 1;
    })

pub come-requires-clause-above : goal.come-requires-clause-above
come-requires-clause-above c =
    let cid = ap (λ (g : Facts). g.cid.0) c.as_facts.ensures.value ∙ c.requires.next in
    omega (arith, cid, ap (λ (i : Cid). i.0) c.make_room.ensures.last, c.requires.whole.ordered.last)
