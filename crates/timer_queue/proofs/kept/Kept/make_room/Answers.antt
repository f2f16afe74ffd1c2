use Rattle.std.proofs.Common.{◌≡◌, List, length, map, subst, sym, ap, arith, ◌∙◌}
use Rattle.least_tree.specs.Numbers.{IsLaid}
use Rattle.timer_queue.specs.Keys.{key_in, keys_in}
use Rattle.timer_queue.specs.Kept.{AreRising, AreIdle, AreOfWords, IsOver, those_in, in_order}
use Rattle.timer_queue.specs.declared.rows.Row.{Row}
use Rattle.timer_queue.proofs.Dropped.{rise-dropped, idle-dropped, those-again, timers-dropped}
use Rattle.timer_queue.proofs.Enrolled.{ids_of}
use Rattle.least_tree.proofs.Over.{over-anew}
use Rattle.timer_queue.proofs.RowEdits.{cid_of}
use Rattle.timer_queue.proofs.TimersOf.{timers_of}
use Rattle.timer_queue.proofs.Words.{words-dropped}
use Rattle.timer_queue.proofs.kept.Kept.make_room.Goals as goal

pub returns-clause-kept : goal.returns-clause-kept
returns-clause-kept c =
    let rows : List Row = c.args.self.now.rows.items in
    let old = c.requires in
    let is : c.drop_gone.new.rows.items ≡ those_in rows = c.drop_gone.ensures.rows ∙ ap those_in c.in_ok-try_reserve.ensures.items in
    let laid : IsLaid (keys_in (those_in rows)) c.in_ok-keys.keys =
    subst (λ rs. IsLaid (keys_in (those_in rs)) c.in_ok-keys.keys) c.deref.ensures.value c.in_ok-keys.ensures.laid in
    record {
      rise = subst AreRising (sym is) (rise-dropped rows old.rise);
      idle = subst AreIdle (sym is) (idle-dropped rows old.idle);
      words = subst AreOfWords (sym is) (words-dropped rows old.words);
      fit = omega (arith, ap length is, c.in_ok-keys.ensures.room, ap (λ rs. length (those_in rs)) c.deref.ensures.value);
      memory = omega (arith, c.drop_gone.ensures.memory, c.in_ok-try_reserve.ensures.ok, c.saturating_sub-more.ensures, c.len-3.ensures, c.len-4.ensures, c.in_ok-try_reserve.ensures.len);
      keys = subst (λ rs. IsOver rs c.in_ok-keys.keys) (sym is) (over-anew key_in (those_in rows) c.in_ok-keys.keys laid);
    }

pub returns-clause-queue : goal.returns-clause-queue
returns-clause-queue c =
    let rows : List Row = c.args.self.now.rows.items in
    let is : c.drop_gone.new.rows.items ≡ those_in rows = c.drop_gone.ensures.rows ∙ ap those_in c.in_ok-try_reserve.ensures.items in
    let ids = ap ids_of is ∙ ap (map cid_of) (those-again rows) in
    let timers = ap timers_of is ∙ ap in_order (timers-dropped rows c.requires.idle) in
    λ i. record { enrolled = ids i; timers = timers i }
