-- Every run of the whole machine: how it begins, and how it goes on.
use Rattle.std.proofs.Common.{arith, List, [], ◌∷◌, refl, ◌∙◌}
use Rattle.laws.proofs.Words.{All-nil}
use Rattle.laws.specs.Words.{AreSound, Settings, start_of, Event, Machine, step, after_all}
use Rattle.laws.specs.Sound.{IsSound}
use Rattle.laws.specs.Steady.{IsSteady}
use Rattle.laws.proofs.WholeEvents.{StaysSteady, step-steady}

pub start-sound : (settings : Settings) → AreSound settings → IsSound (start_of settings)
start-sound settings h = grind (arith, h, All-nil)

pub start-steady : (settings : Settings) → AreSound settings → IsSteady (start_of settings)
start-steady settings h = grind (arith, start-sound settings h, All-nil)

pub run-steady : (m : Machine) (events : List Event) → IsSteady m → StaysSteady m (after_all m events)
unfolding after_all
run-steady m [] h = record { steady = h; settings = refl }
run-steady m (event ∷ events) h =
    let first : StaysSteady m (step m event).machine = step-steady m event h in
    let rest : StaysSteady (step m event).machine (after_all (step m event).machine events) =
    run-steady (step m event).machine events first.steady in
    record { steady = rest.steady; settings = rest.settings ∙ first.settings }

pub after_all-steady : (settings : Settings) (events : List Event) → AreSound settings →
    StaysSteady (start_of settings) (after_all (start_of settings) events)
after_all-steady settings events h = run-steady (start_of settings) events (start-steady settings h)
