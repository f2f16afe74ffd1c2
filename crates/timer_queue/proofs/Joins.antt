-- Of two timers, or of none, the one that fires first: in whatever order they are looked at.
use Rattle.std.proofs.Common.{◌≡◌, List, [], ◌∷◌, ◌++◌, Option, Some, None, refl, sym, ap, ◌∙◌, inl, inr}
use Rattle.std.specs.List.{cons_option}
use Rattle.std.proofs.lemmas.Bool.{cases_Bool}
use Rattle.net_base.specs.Timer.{deadline_before}
use Rattle.net_base.specs.declared.timer.Deadline.{Deadline}
use Rattle.net_base.specs.declared.timer.Kind.TheVariants.{Handshake, Grace, TimeWait, Reply2, Reply8, Reply10}
use Rattle.timer_queue.specs.Kept.{timers_in, all_timers}
use Rattle.timer_queue.specs.Timers.{least}
use Rattle.timer_queue.specs.Trees.{sooner, timer_in, first_in}
use Rattle.timer_queue.specs.declared.rows.Row.{Row}
use Rattle.timer_queue.proofs.Firsts.{not_before}
use Rattle.timer_queue.proofs.Orders.{timer_order}

pub sooner-none : (o : Option Deadline) → sooner o None ≡ o
sooner-none None = refl
sooner-none (Some d) = refl

pub sooner-joined : (o p q : Option Deadline) → sooner (sooner o p) q ≡ sooner o (sooner p q)
sooner-joined None p q = refl
sooner-joined (Some a) None q = refl
sooner-joined (Some a) (Some b) None = refl
sooner-joined (Some a) (Some b) (Some c) = elim (cases_Bool (deadline_before b a)) [
  | inl ba ↦ elim (cases_Bool (deadline_before c b)) [
    | inl cb ↦ rw (ba, cb, timer_order.transitive c b a cb ba) refl
    | inr bc ↦ rw (ba, bc, ba) refl
  ]
  | inr ab ↦ elim (cases_Bool (deadline_before c b)) [
    | inl cb ↦ rw (ab, cb) refl
    | inr bc ↦ rw (ab, bc, ab, not_before c b a bc ab) refl
  ]
]

-- ---- of rows

least-cons_option : (o : Option Deadline) (ds : List Deadline) → least (cons_option o ds) ≡ sooner o (least ds)
least-cons_option None ds = refl
least-cons_option (Some d) ds = refl

least-append : (xs ys : List Deadline) → least (xs ++ ys) ≡ sooner (least xs) (least ys)
least-append [] ys = refl
least-append (x ∷ xs) ys = ap (sooner (Some x)) (least-append xs ys) ∙ sym (sooner-joined (Some x) (least xs) (least ys))

first_in-least : (row : Row) → least (timers_in row) ≡ first_in row
first_in-least row =
    least-cons_option (timer_in row Handshake) _
    ∙ ap (sooner (timer_in row Handshake)) (least-cons_option (timer_in row Grace) _
    ∙ ap (sooner (timer_in row Grace)) (least-cons_option (timer_in row TimeWait) _
    ∙ ap (sooner (timer_in row TimeWait)) (least-cons_option (timer_in row Reply2) _
    ∙ ap (sooner (timer_in row Reply2)) (least-cons_option (timer_in row Reply8) _
    ∙ ap (sooner (timer_in row Reply8)) (least-cons_option (timer_in row Reply10) [] ∙ sooner-none (timer_in row Reply10))))))

pub least-rows : (r : Row) (rs : List Row) → least (all_timers (r ∷ rs)) ≡ sooner (first_in r) (least (all_timers rs))
least-rows r rs = least-append (timers_in r) (all_timers rs) ∙ ap (λ o. sooner o (least (all_timers rs))) (first_in-least r)
