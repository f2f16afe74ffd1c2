-- The timers of a connection in front of those of the others.
use Rattle.std.proofs.Common.{◌≡◌, ℕ, nat_eq, ◌&&◌, ◌||◌, Bool, true, false, not, cond, List, ◌++◌, Option, Some, None, is_some, refl, sym, ap, ◌∙◌, inl, inr}
use Rattle.std.specs.Option.{option_eq}
use Rattle.std.proofs.lemmas.Bool.{cases_Bool, and_parts, false≢true}
use Rattle.net_base.proofs.AddressOrder.{same_number}
use Rattle.net_base.specs.Timer.{deadline_before}
use Rattle.net_base.specs.declared.connection.Cid.{Cid}
use Rattle.timer_queue.specs.Kept.{AreRising, all_timers, in_order}
use Rattle.timer_queue.specs.Rows.{moment, moment_of, moment_at, row_at, is_set_at, timers_of, with_row}
use Rattle.timer_queue.specs.declared.moments.Moments.{Moments}
use Rattle.timer_queue.specs.declared.rows.Row.{Row}
use Rattle.timer_queue.proofs.Orders.{timer_order, same_cid-is}
use Rattle.timer_queue.proofs.Rising.{has-filter}
use Rattle.timer_queue.proofs.RowEdits.{AreRising-with_row, moment_at-put}
use Rattle.timer_queue.proofs.TimersOf.{agreeing, has-timers_in}
use Rattle.std.specs.List.{cons_option}
use Rattle.std.proofs.lemmas.List.Folds.{list_any-append}
use Rattle.net_base.specs.declared.timer.Deadline.{Deadline}
use Rattle.timer_queue.specs.Timers.{same_cid, same_timer, has_timer, HaveSame, is_of, without_cid}

-- two timers, or none, the other way round
pub swapped : (a b : Option Deadline) (rest : List Deadline) → HaveSame (cons_option a (cons_option b rest)) (cons_option b (cons_option a rest))
swapped None b rest d = refl
swapped (Some x) None rest d = refl
swapped (Some x) (Some y) rest d = turned (same_timer x d) (same_timer y d) (has_timer d rest)
  where
    turned : (p q r : Bool) → (p || (q || r)) ≡ (q || (p || r))
    turned true true r = refl
    turned true false r = refl
    turned false true r = refl
    turned false false r = refl

-- what is in front may be told by another list of the same timers
pub in_front : (xs ys rest line : List Deadline) → HaveSame line (xs ++ rest) → HaveSame xs ys → HaveSame line (ys ++ rest)
in_front xs ys rest line is same d =
    is d
    ∙ (list_any-append (λ e. same_timer e d) xs rest
    ∙ (ap (λ b. b || has_timer d rest) (same d) ∙ sym (list_any-append (λ e. same_timer e d) ys rest)))

-- ---- what a queue has once all timers of a connection are put

choose : (own set had : Bool) → cond own set had ≡ ((own && set) || (had && not own))
choose true true had = refl
choose true false true = refl
choose true false false = refl
choose false set true = refl
choose false set false = refl

-- of each timer of the connection its moments decide, and every other stays
told_so : (cid : Cid) (m : Moments) (old new : List Deadline) →
    ((d : Deadline) → has_timer d new ≡ cond (is_of cid d) (is_set_at d.at (moment d.kind m)) (has_timer d old)) →
    HaveSame new (timers_of cid m ++ without_cid cid old)
told_so cid m old new told d =
    told d
    ∙ (choose (is_of cid d) (is_set_at d.at (moment d.kind m)) (has_timer d old)
    ∙ (ap (λ b. b || (has_timer d old && not (is_of cid d))) (sym (has-timers_in d (record { cid = cid; enrolled = true; moments = m })))
    ∙ (ap (λ b. has_timer d (timers_of cid m) || b) (sym (has-filter deadline_before same_timer timer_order (λ e. not (is_of cid e)) d old))
    ∙ sym (list_any-append (λ e. same_timer e d) (timers_of cid m) (without_cid cid old)))))

pub timers-put : (new : Row) (rows : List Row) → AreRising rows → is_some (row_at new.cid rows) ≡ true →
    HaveSame (in_order (all_timers (with_row new rows))) (timers_of new.cid new.moments ++ without_cid new.cid (in_order (all_timers rows)))
timers-put new rows rises there =
    told_so new.cid new.moments (in_order (all_timers rows)) (in_order (all_timers (with_row new rows))) (λ d.
    agreeing (with_row new rows) (AreRising-with_row new rows rises) d
    ∙ (ap (is_set_at d.at) (moment_at-put d.cid d.kind new rows there)
    ∙ (inside d (same_cid d.cid new.cid) ∙ ap (cond (is_of new.cid d) (is_set_at d.at (moment d.kind new.moments))) (sym (agreeing rows rises d)))))
  where
    inside : (d : Deadline) (b : Bool) → is_set_at d.at (cond b (moment d.kind new.moments) (moment_at d.cid d.kind rows))
        ≡ cond b (is_set_at d.at (moment d.kind new.moments)) (is_set_at d.at (moment_at d.cid d.kind rows))
    inside d true = refl
    inside d false = refl

-- they are those that it has
pub timers-had : (row : Row) (rows : List Row) → AreRising rows → row_at row.cid rows ≡ Some row →
    HaveSame (in_order (all_timers rows)) (timers_of row.cid row.moments ++ without_cid row.cid (in_order (all_timers rows)))
timers-had row rows rises found =
    told_so row.cid row.moments (in_order (all_timers rows)) (in_order (all_timers rows)) (λ d. elim (cases_Bool (is_of row.cid d)) [
      | inl its ↦
          let here : row_at d.cid rows ≡ Some row = ap (λ (i : Cid). row_at i rows) (same_cid-is d.cid row.cid its) ∙ found in
          rw its (agreeing rows rises d ∙ ap (λ o. is_set_at d.at (moment_of d.kind o)) here)
      | inr other ↦ rw other refl
    ])

-- ---- moments that are found the same

same_moment : (a b : Option ℕ) → option_eq nat_eq a b ≡ true → a ≡ b
same_moment None None e = refl
same_moment None (Some n) e = absurd (false≢true e)
same_moment (Some m) None e = absurd (false≢true e)
same_moment (Some m) (Some n) e = ap Some (same_number m n e)

pub same_moments : (m n : Moments) → (option_eq nat_eq m.handshake n.handshake && (option_eq nat_eq m.grace n.grace
    && (option_eq nat_eq m.time_wait n.time_wait && (option_eq nat_eq m.reply2 n.reply2
    && (option_eq nat_eq m.reply8 n.reply8 && option_eq nat_eq m.reply10 n.reply10))))) ≡ true → m ≡ n
same_moments m n e =
    let a = and_parts (option_eq nat_eq m.handshake n.handshake) _ e in
    let b = and_parts (option_eq nat_eq m.grace n.grace) _ a.1 in
    let c = and_parts (option_eq nat_eq m.time_wait n.time_wait) _ b.1 in
    let d = and_parts (option_eq nat_eq m.reply2 n.reply2) _ c.1 in
    let f = and_parts (option_eq nat_eq m.reply8 n.reply8) _ d.1 in
    λ i. record {
      handshake = same_moment m.handshake n.handshake a.0 i;
      grace = same_moment m.grace n.grace b.0 i;
      time_wait = same_moment m.time_wait n.time_wait c.0 i;
      reply2 = same_moment m.reply2 n.reply2 d.0 i;
      reply8 = same_moment m.reply8 n.reply8 f.0 i;
      reply10 = same_moment m.reply10 n.reply10 f.1 i;
    }
