-- Each event keeps what is sound.
use Rattle.std.proofs.Common.{ℕ, ◌<◌, ◌≡◌, false, nat_le, refl, ap, arith, leb-false}
use Rattle.laws.proofs.Words.{cond_both, lt-leb, All-weaker, count_none, recursion_from_All}
use Rattle.laws.specs.Words.{Machine, deadlines, fire_all, clock_shows, nothing_more}
use Rattle.laws.specs.Laws.{WithinHardLimit, DeadlinesAhead}
use Rattle.laws.specs.Sound.{IsOrderly, IsSound}
use Rattle.laws.proofs.Lists.{count_by-none}
use Rattle.laws.proofs.Counts.{is_late, late_in}
use Rattle.laws.proofs.Moves.{Lowers}
use Rattle.laws.proofs.Firing.{fire_all-lowers, fire_all-none_late}

-- no deadline is late exactly where every deadline is above now
pub ahead-none_late : (m : Machine) → DeadlinesAhead m → late_in m ≡ 0
ahead-none_late m h = search (arith, count_none, recursion_from_All, lt-leb)

pub none_late-ahead : (m : Machine) → late_in m ≡ 0 → DeadlinesAhead m
none_late-ahead m none = search (arith, count_by-none)

-- what an event does to a sound record: it is sound again, under the same settings
pub record StaysSound (before after : Machine) : Type 0 where
  pub sound : IsSound after
  pub settings : after.settings ≡ before.settings

stays_same : (m : Machine) → IsSound m → StaysSound m m
stays_same m h = record { sound = h; settings = refl }

-- the record at a moment
abbrev pub at_moment : ℕ → Machine → Machine
at_moment t m = record m { now = t }

pub at_moment-orderly : (t : ℕ) (m : Machine) → IsOrderly m → IsOrderly (at_moment t m)
at_moment-orderly t m h = assumption

-- all that is due happens
pub fire_all-sound : (m : Machine) → IsOrderly m → WithinHardLimit m → StaysSound m (fire_all m).machine
fire_all-sound m h within =
    let l : Lowers 0 m (fire_all m).machine = fire_all-lowers m h in
    let hard : (fire_all m).machine.settings.hard ≡ m.settings.hard = ap (λ s. s.hard) l.settings in
    let counted : WithinHardLimit (fire_all m).machine = omega (arith, l.counted, within, hard) in
    assumption (none_late-ahead (fire_all m).machine (fire_all-none_late m h))

pub clock_shows-sound : (t : ℕ) (m : Machine) → IsSound m → StaysSound m (clock_shows t m).machine
clock_shows-sound t m h = cond_both (nat_le t m.now) (nothing_more m) (fire_all (at_moment t m))
    (λ effect. StaysSound m effect.machine) (λ past. stays_same m h) (λ later.
    let all = fire_all-sound (at_moment t m) (at_moment-orderly t m h.orderly) h.counted in
    record { sound = all.sound; settings = all.settings })
