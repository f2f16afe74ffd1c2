-- The runs that are driven and drilled are runs of the machine.
use Rattle.std.proofs.Common.{◌≡◌, ℕ, zero, suc, ◌+◌, Bool, List, [], ◌∷◌, ◌++◌, length, Option, refl, sym, ap, ◌∙◌, subst, length-append, add-one}
use Rattle.io_edge.specs.Lines.{ended_lines}
use Rattle.laws.specs.Runs.{IsLawfulRun}
use Rattle.machine.specs.Machine.{Machine, start_of}
use Rattle.machine.specs.Run.{after_all}
use Rattle.machine.specs.Step.{step}
use Rattle.net_base.specs.Bounds.{AreSound}
use Rattle.net_base.specs.declared.action.Action.{Action}
use Rattle.net_base.specs.declared.event.Event.{Event}
use Rattle.net_base.specs.declared.settings.Settings.{Settings}
use Rattle.node_world.specs.Town.{next_of}
use Rattle.world_drive.specs.Drill.{Drilled, town_settings, turned, drilled, tallies, tally_lines, drill_text}
use Rattle.world_play.specs.Drive.{IsFrontOf, acts_of, all_actions, IsDriven, Drives}
use Rattle.trace_compare.specs.RunText.{whole_text}
use Rattle.world_drive.specs.Lawful.{DrivesLawfully, town_events, tallies_of, counted_text}
use Rattle.trace_meaning.specs.declared.outcome.Outcome.{Outcome}
use Rattle.trace_meaning.specs.declared.outcome.Outcome.TheVariants as outcome
use Rattle.world_drive.specs.declared.tallies.Tallies.{Tallies}
use Rattle.trace_compare.proofs.RunTexts.{after_all-append, after_all-one}
use Rattle.world_play.proofs.Drives.{front_all, acts_of-none, acts_of-append, acts_of-one}

-- ---- in a world

abbrev AreFronts : Settings → List Event → List ℕ → List Action → Type 0
AreFronts settings events written acts = IsFrontOf written (whole_text settings events) × IsFrontOf acts (all_actions settings events)

driven-fronts : (o : Outcome) (s : Settings) (first : List Event) (count : ℕ) (ended : Bool) (events : List Event) (written : List ℕ) (acts : List Action) →
    IsDriven o s first count ended events written acts → AreFronts s (first ++ events) written acts
driven-fronts outcome.Done s first count ended events written acts h = (
  subst (λ (text : List ℕ). IsFrontOf text (whole_text s (first ++ events))) (sym h.1) (front_all (whole_text s (first ++ events))),
  subst (λ (done : List Action). IsFrontOf done (all_actions s (first ++ events))) (sym h.2) (front_all (all_actions s (first ++ events))),
)
driven-fronts (outcome.Differ line) s first count ended events written acts h = absurd h
driven-fronts (outcome.Refused line kind) s first count ended events written acts h = absurd h
driven-fronts outcome.ReadFault s first count ended events written acts h = absurd h
driven-fronts outcome.WriteFault s first count ended events written acts h = (h.0.text, h.0.done)
driven-fronts outcome.OutOfMemory s first count ended events written acts h = (h.text, h.done)
driven-fronts outcome.WorldFault s first count ended events written acts h = (h.0.text, h.0.done)
driven-fronts (outcome.TooLong line) s first count ended events written acts h = absurd h

pub drives-lawfully : (s : Settings) (first : List Event) (count : ℕ) (t0 t1 : Option (List Event)) (d0 d1 : Option (List Action)) (ended : Bool) (o0 o1 : Option (List ℕ)) (o : Outcome) →
    ((events : List Event) → IsLawfulRun s events) → Drives s first count t0 t1 d0 d1 ended o0 o1 o → DrivesLawfully s first t0 t1 d0 d1 o0 o1
drives-lawfully s first count t0 t1 d0 d1 ended o0 o1 o law drives =
    let fronts = driven-fronts o s first count ended drives.events drives.written drives.acts drives.is_driven in
    record {
      events = drives.events;
      taken = drives.taken;
      acts = drives.acts;
      done = drives.done;
      done_of = fronts.1;
      written = drives.written;
      out = drives.out;
      written_of = fronts.0;
      lawful = law (first ++ drives.events);
    }

-- ---- in a town

abbrev IsRunOf : Drilled → List Event → Type 0
IsRunOf d events = (d.machine ≡ after_all (start_of town_settings) events) × (d.actions ≡ acts_of (start_of town_settings) events)

turned-run : (d : Drilled) (events : List Event) → IsRunOf d events → IsRunOf (turned d) (events ++ (next_of d.town).0 ∷ [])
unfolding turned
turned-run d events is =
    let event = (next_of d.town).0 in
    let reached = after_all (start_of town_settings) events in (
      ap (λ (m : Machine). (step m event).machine) is.0 ∙ sym (after_all-one reached event) ∙ sym (after_all-append (start_of town_settings) events (event ∷ [])),
      ap (λ (acts : List Action). acts ++ (step d.machine event).actions) is.1
          ∙ ap (λ (m : Machine). acts_of (start_of town_settings) events ++ (step m event).actions) is.0
          ∙ ap (λ (acts : List Action). acts_of (start_of town_settings) events ++ acts) (sym (acts_of-one reached event))
          ∙ sym (acts_of-append (start_of town_settings) events (event ∷ [])),
    )

drilled-run : (seed count : ℕ) → IsRunOf (drilled seed count) (town_events seed count)
unfolding drilled town_events after_all
drilled-run seed zero = (refl, sym (acts_of-none (start_of town_settings)))
drilled-run seed (suc count) = turned-run (drilled seed count) (town_events seed count) (drilled-run seed count)

town_events-many : (seed count : ℕ) → length (town_events seed count) ≡ count
unfolding town_events
town_events-many seed zero = refl
town_events-many seed (suc count) =
    length-append (town_events seed count) ((next_of (drilled seed count).town).0 ∷ []) ∙ ap (λ n. n + 1) (town_events-many seed count) ∙ add-one count

tallies-run : (seed count : ℕ) → tallies seed count ≡ tallies_of town_settings (town_events seed count)
tallies-run seed count =
    let run = drilled-run seed count in rw (run.0, run.1, town_events-many seed count) refl

pub counted-run : (seed count : ℕ) → drill_text seed count ≡ counted_text town_settings (town_events seed count)
unfolding drill_text
counted-run seed count = ap (λ (t : Tallies). ended_lines (tally_lines t)) (tallies-run seed count)

pub town_settings-sound : AreSound town_settings
town_settings-sound = refl
