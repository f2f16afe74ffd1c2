-- The state that stands at the place of an id, and what a step keeps of it.
use Rattle.std.proofs.Common.{◌≡◌, ℕ, ◌<◌, true, List, map, length, get_or, slice_get, Option, Some, None, IsSome, IfSome, IsSomeAnd, refl, sym, ap, ◌∙◌, inl, inr, arith, rules}
use Rattle.std.specs.Option.{option_map}
use Rattle.std.proofs.lemmas.Bool.{cases_Bool, true≢false, false≢true}
use Rattle.std.proofs.lemmas.List.{length-map}
use Rattle.std.proofs.lemmas.Option.{slice_get-map, slice_get_within, slice_get-get_or}
use Rattle.net_base.specs.declared.connection.Facts.{Facts}
use Rattle.net_base.specs.declared.connection.Grace.{Grace}
use Rattle.net_base.specs.declared.connection.Grace.TheVariants.{Off}
use Rattle.net_base.specs.declared.connection.Phase.{Phase}
use Rattle.net_base.specs.declared.connection.Phase.TheVariants as phase
use Rattle.net_base.specs.declared.connection.Responders.{Responders}
use Rattle.conn_state.specs.Shapes.{IsUnused}
use Rattle.conn_state.specs.State.{facts_of, HasShape}
use Rattle.conn_state.specs.Use.{facts_at, is_live, live_phase, is_dialing_phase, is_greeting_phase, is_negotiated_phase, is_outbound, runs, some_runs}
use Rattle.conn_state.specs.declared.state.ConnState.{ConnState}
use Rattle.conn_state.specs.declared.state.ConnState.TheVariants as state
use Rattle.conn_table.specs.Answers.{is_due}
use Rattle.conn_table.specs.Conditions.{CanStep, after_step}
use Rattle.conn_table.specs.Index.{placed_of}
use Rattle.conn_table.specs.Finds.{id_place}
use Rattle.conn_table.specs.Table.{IdsRise}
use Rattle.conn_table.specs.declared.step.Step.{Step}
use Rattle.conn_table.specs.declared.step.Step.TheVariants as step
use Rattle.conn_table.proofs.IdPlaces.{get-place}

-- ---- what is found

pub some_of : (o : Option Facts) → IsSome o → (f : Facts) × (o ≡ Some f)
some_of None h = absurd (false≢true h)
some_of (Some f) h = (f, refl)

pub some_with : (P : Facts → Type 0) (o : Option Facts) → IsSomeAnd o P → (f : Facts) × (o ≡ Some f) × P f
some_with P None h = absurd h
some_with P (Some f) h = (f, refl, h)

pub if_some : (P : Facts → Type 0) (o : Option Facts) → ((f : Facts) → o ≡ Some f → P f) → IfSome o P
if_some P None h = tt
if_some P (Some f) h = h f refl

pub place_inside : (xs : List ConnState) (place : ℕ) (f : Facts) → slice_get (map facts_of xs) place ≡ Some f → place < length xs
place_inside xs place f at = omega (arith, slice_get_within (map facts_of xs) place f at, length-map xs facts_of)

is_facts : (x : ConnState) (f : Facts) → option_map facts_of (Some x) ≡ Some f → facts_of x ≡ f
is_facts x f h = cc

pub state_there : (xs : List ConnState) (place : ℕ) (f : Facts) (d : ConnState) → slice_get (map facts_of xs) place ≡ Some f →
    facts_of (get_or xs place d) ≡ f
state_there xs place f d at =
    is_facts (get_or xs place d) f (
    ap (option_map facts_of) (sym (slice_get-get_or xs place d (place_inside xs place f at)))
    ∙ (sym (slice_get-map facts_of xs place) ∙ at)
    )

pub state_at : (cid above most : ℕ) (xs : List ConnState) (f : Facts) (d : ConnState) → IdsRise above most (map facts_of xs) → facts_at cid (map facts_of xs) ≡ Some f →
    facts_of (get_or xs (id_place cid (map facts_of xs)) d) ≡ f
state_at cid above most xs f d rises found =
    state_there xs (id_place cid (map facts_of xs)) f d (get-place cid above most (map facts_of xs) f rises found)

-- what was read of the state at a place stands there
pub was_there : (P : Facts → Type 0) (xs : List ConnState) (place : ℕ) (x d : ConnState) (f : Facts) → IsSomeAnd (slice_get (map facts_of xs) place) P →
    x ≡ get_or xs place d → f ≡ facts_of x → slice_get (map facts_of xs) place ≡ Some f
was_there P xs place x d f some is_x is_f =
    let found = some_with P (slice_get (map facts_of xs) place) some in
    found.1 ∙ ap Some (sym (is_f ∙ (ap facts_of is_x ∙ state_there xs place found.0 d found.1)))

-- the same of a place that is inside
pub stands_there : (xs : List ConnState) (place : ℕ) (x : ConnState) → place < length (map facts_of xs) → x ≡ get_or xs place x →
    slice_get (map facts_of xs) place ≡ Some (facts_of x)
stands_there xs place x inside is =
    slice_get-map facts_of xs place
    ∙ ap (option_map facts_of) (slice_get-get_or xs place x (omega (arith, inside, length-map xs facts_of)) ∙ ap Some (sym is))

-- ---- a step keeps the address and the id

pub step_keeps : (s : Step) (f : Facts) → placed_of (after_step s f) ≡ placed_of f
step_keeps (step.Connected until) f = refl
step_keeps (step.Negotiated agreed until) f = elim (cases_Bool (is_outbound f)) [ inl out ↦ rw out refl | inr inbound ↦ rw inbound refl ]
step_keeps step.Acquire f = refl
step_keeps (step.Release until) f = refl
step_keeps (step.Awake protocol) f = refl
step_keeps (step.Idle protocol until) f = refl
step_keeps (step.GraceOver until) f = elim (cases_Bool f.local) [ inl used ↦ rw used refl | inr unused ↦ rw unused refl ]

-- ---- what makes a step is live

dialing_lives : (p : Phase) → is_dialing_phase p ≡ true → live_phase p ≡ true
dialing_lives phase.Dialing h = refl
dialing_lives (phase.Greeting until) h = refl
dialing_lives phase.Negotiated h = refl
dialing_lives (phase.Closing until) h = absurd (false≢true h)

greeting_lives : (p : Phase) → is_greeting_phase p ≡ true → live_phase p ≡ true
greeting_lives phase.Dialing h = refl
greeting_lives (phase.Greeting until) h = refl
greeting_lives phase.Negotiated h = refl
greeting_lives (phase.Closing until) h = absurd (false≢true h)

negotiated_lives : (p : Phase) → is_negotiated_phase p ≡ true → live_phase p ≡ true
negotiated_lives phase.Dialing h = refl
negotiated_lives (phase.Greeting until) h = refl
negotiated_lives phase.Negotiated h = refl
negotiated_lives (phase.Closing until) h = absurd (false≢true h)

running_runs : (protocol : ℕ) (r : Responders) → runs protocol r ≡ true → some_runs r ≡ true
running_runs protocol r h = search rules

never_due : (now : ℕ) (g : Grace) → g ≡ Off → is_due now g ≡ true → ⊥
never_due now g e h = true≢false (sym h ∙ ap (is_due now) e)

unused_lives : (s : Step) (f : Facts) → IsUnused f → CanStep s f → is_live f ≡ true
unused_lives (step.Connected until) f unused can = dialing_lives f.phase can
unused_lives (step.Negotiated agreed until) f unused can = greeting_lives f.phase can
unused_lives step.Acquire f unused can = negotiated_lives f.phase (acquirable_negotiated can)
  where
    acquirable_negotiated : CanStep step.Acquire f → is_negotiated_phase f.phase ≡ true
    acquirable_negotiated h = search rules
unused_lives (step.Release until) f unused can = absurd (true≢false (sym can ∙ unused.local))
unused_lives (step.Awake protocol) f unused can = negotiated_lives f.phase can.1.negotiated
unused_lives (step.Idle protocol until) f unused can = absurd (true≢false (sym (running_runs protocol f.running can) ∙ unused.remote))
unused_lives (step.GraceOver until) f unused can = absurd (never_due can.0 f.grace unused.grace can.1)

pub steps_live : (s : Step) (x : ConnState) → HasShape x → CanStep s (facts_of x) → is_live (facts_of x) ≡ true
steps_live s (state.ReservedOutbound f) shape can = dialing_lives f.phase shape.dialing
steps_live s (state.Unnegotiated f) shape can = greeting_lives f.phase shape.greeting
steps_live s (state.OutboundUni f) shape can = negotiated_lives f.phase shape.used.negotiated
steps_live s (state.OutboundDup f) shape can = negotiated_lives f.phase shape.used.negotiated
steps_live s (state.InboundIdle f) shape can = negotiated_lives f.phase shape.used.negotiated
steps_live s (state.Inbound f) shape can = negotiated_lives f.phase shape.used.negotiated
steps_live s (state.Duplex f) shape can = negotiated_lives f.phase shape.used.negotiated
steps_live s (state.OutboundIdle f) shape can = negotiated_lives f.phase shape.used.negotiated
steps_live s (state.Terminating f) shape can = unused_lives s f shape.unused can
