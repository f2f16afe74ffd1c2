-- The clients that lines lead to are those that events lead to.
use Rattle.std.proofs.Common.{◌≡◌, ℕ, ◌+◌, ◌<◌, leb, List, [], ◌∷◌, ◌++◌, length, take, Result, Ok, Err, refl, sym, ap, ◌∙◌, arith, inl, inr}
use Rattle.std.specs.List.{AllByRecursion}
use Rattle.std.proofs.lemmas.Bool.{cases_Bool, leb-false}
use Rattle.std.proofs.lemmas.List.{length-append}
use Rattle.io_edge.specs.Lines.{whole_lines}
use Rattle.line_run.specs.Refusals.{if_read}
use Rattle.trace_text.specs.declared.line.LineRefusal.{LineRefusal}
use Rattle.local_clients.specs.declared.client_line.ClientLine.{ClientLine}
use Rattle.local_clients.specs.declared.client_line.ClientLine.TheVariants.{Happen, Skipped, End}
use Rattle.local_clients.specs.declared.event.ClientEvent.{ClientEvent}
use Rattle.local_clients.specs.declared.rules.ClientRules.{ClientRules}
use Rattle.local_clients.specs.Clients.{ClientTable, ClientsState, no_clients, stepped}
use Rattle.local_clients.specs.Law.{run, AreReached, AreLawful}
use Rattle.local_clients.specs.Lines.{client_line, CanBeTaken}
use Rattle.local_clients.specs.Replay.{most_events, nobody, said_means, line_means, led_by, led_through, clients_after}
use Rattle.local_clients.specs.Rules.{AreInRange, CanHappen}
use Rattle.local_clients.proofs.Laws.{are_lawful}
use Rattle.local_clients.proofs.Readings.{line_can}

run_push : (rules : ClientRules) (events : List ClientEvent) (event : ClientEvent) (t : ClientTable) →
    (run stepped rules (events ++ event ∷ []) t).table ≡ (stepped rules event (run stepped rules events t).table).table
run_push rules [] event t = refl
run_push rules (first ∷ events) event t = run_push rules events event (stepped rules first t).table

happen_push : (events : List ClientEvent) (event : ClientEvent) → AllByRecursion CanHappen events → CanHappen event → AllByRecursion CanHappen (events ++ event ∷ [])
happen_push [] event all can = (can, tt)
happen_push (first ∷ events) event all can = (all.0, happen_push events event all.1 can)

-- so many events lead to these clients
record IsLed (rules : ClientRules) (c : ClientsState) : Type 0 where
  reached : AreReached stepped rules c.table
  same : c.rules ≡ rules
  count : c.taken ≡ length reached.events

module _ (rules : ClientRules) where
  one_more : (c : ClientsState) (event : ClientEvent) → IsLed rules c → CanHappen event → c.taken < 1000000 →
      IsLed rules (record { rules = c.rules; taken = c.taken + 1; table = (stepped c.rules event c.table).table })
  one_more c event led can few =
      let r = led.reached in
      let more : length (r.events ++ event ∷ []) ≡ length r.events + 1 = length-append r.events (event ∷ []) in
      let leads : (stepped c.rules event c.table).table ≡ (run stepped rules (r.events ++ event ∷ []) no_clients).table =
      ap (λ (given : ClientRules). (stepped given event c.table).table) led.same
      ∙ ap (λ (t : ClientTable). (stepped rules event t).table) r.leads ∙ sym (run_push rules r.events event no_clients) in
      record {
        reached = record {
          events = r.events ++ event ∷ [];
          ranges = r.ranges;
          few = omega (arith, more, led.count, few);
          happen = happen_push r.events event r.happen can;
          leads = leads;
        };
        same = led.same;
        count = omega (arith, more, led.count);
      }

  led_read : (c : ClientsState) (text : List ℕ) (read : Result ClientLine LineRefusal) → IsLed rules c → ((line : ClientLine) → read ≡ Ok line → CanBeTaken line) →
      IsLed rules (led_by (if_read read (said_means c text)) c)
  led_read c text (Err refusal) led can = led
  led_read c text (Ok Skipped) led can = led
  led_read c text (Ok End) led can = led
  led_read c text (Ok (Happen event)) led can =
      elim (cases_Bool (leb most_events c.taken)) [
        | inl many ↦ rw many led
        | inr few ↦ rw few (one_more c event led (can (Happen event) refl) (leb-false most_events c.taken few))
      ]

  led_on : (texts : List (List ℕ)) (c : ClientsState) → IsLed rules c → IsLed rules (led_through texts c)
  led_on [] c led = led
  led_on (text ∷ texts) c led = led_on texts (led_by (line_means c text) c) (led_read c text (client_line text) led (line_can text))

  nobody_led : AreInRange rules → IsLed rules (nobody rules)
  nobody_led ranges = record {
    reached = record { events = []; ranges = ranges; few = omega arith; happen = tt; leads = refl };
    same = refl;
    count = refl;
  }

  -- every law holds of the clients behind any lines
  pub lawful_after : AreInRange rules → (input : List ℕ) (count : ℕ) → AreLawful rules (clients_after rules count input)
  lawful_after ranges input count =
      are_lawful rules (clients_after rules count input) (led_on (take count (whole_lines input)) (nobody rules) (nobody_led ranges)).reached
