-- What a node's run comes to, put together from its parts.
use Rattle.std.proofs.Common.{◌≡◌, ℕ, ◌<◌, Bool, true, List, [], ◌∷◌, ◌++◌, length, All, Option, None, Result, Ok, Err, OnOk, OnErr, ◌⊎◌, inl, inr, refl, sym, ap, ◌∙◌, subst, arith}
use Rattle.std.proofs.lemmas.List.{append-nil}
use Rattle.std.proofs.lemmas.List.Elements.{All-nil, All-cons}
use Rattle.net_base.specs.Bounds.{targets_fault}
use Rattle.net_base.specs.Limits.{HasValencies, IsWithinLimits}
use Rattle.machine.specs.Machine.{Machine, start_of}
use Rattle.machine.specs.Run.{actions_of}
use Rattle.net_base.specs.declared.action.Action.{Action}
use Rattle.net_base.specs.declared.event.Event.{Event}
use Rattle.net_base.specs.declared.event.Event.TheVariants.{Aims, Locals}
use Rattle.net_base.specs.declared.event.Group.{Group}
use Rattle.net_base.specs.declared.settings.Settings.{Settings}
use Rattle.net_base.specs.declared.targets.Targets.{Targets}
use Rattle.node_settings.specs.declared.config.Config.{Config}
use Rattle.node_settings.specs.declared.topology.Topology.{Topology}
use Rattle.node_world.specs.declared.opening.Opening.{Opening}
use Rattle.world_play.specs.Drive.{acts_of, all_actions, SaysUpTo, IsDriven, Drives}
use Rattle.trace_compare.specs.RunText.{text_up_to}
use Rattle.trace_meaning.specs.declared.outcome.Outcome.{Outcome}
use Rattle.trace_meaning.specs.declared.outcome.Outcome.TheVariants as outcomes
use Rattle.node_run.specs.Node.{WorldTold, world_told, opened_world, opening_for, opened_with, IsDriving, IsServing}
use Rattle.tool_status.specs.Streams.{SinkTold}
use Rattle.tool_status.specs.declared.status.Status.{Status}

-- ---- the world

-- a world that was opened tells nothing else than before
pub opened_is : (is_open0 is_open1 has_ended0 has_ended1 : Bool) (faults0 faults1 : ℕ) (opening0 opening1 : Option (Option Opening)) (taken0 taken1 : Option (List Event))
    (done0 done1 : Option (List Action)) (config : Config) (topology : Topology) → is_open1 ≡ true → has_ended1 ≡ has_ended0 → faults1 ≡ faults0 →
    opening1 ≡ opened_with opening0 (opening_for config topology) → taken1 ≡ taken0 → done1 ≡ done0 →
    world_told is_open1 has_ended1 faults1 opening1 taken1 done1 ≡ opened_world (world_told is_open0 has_ended0 faults0 opening0 taken0 done0) config topology
opened_is is_open0 is_open1 has_ended0 has_ended1 faults0 faults1 opening0 opening1 taken0 taken1 done0 done1 config topology o e f p t d = rw (o, e, f, p, t, d) refl

-- driven behind the opening, it is served
pub serving_opened : (config : Config) (topology : Topology) (count : ℕ) (before opened after : WorldTold) (out0 out1 : SinkTold) (s : Status) →
    opened ≡ opened_world before config topology → IsDriving config topology count opened after out0 out1 s → IsServing config topology count before after out0 out1 s
serving_opened config topology count before opened after out0 out1 s is driving =
    inl (subst (λ (world : WorldTold). IsDriving config topology count world after out0 out1 s) is driving)

-- ---- a world that fails

-- the targets alone have no action
acts_of-targets : (m : Machine) (targets : Targets) → acts_of m (Aims targets ∷ []) ≡ []
unfolding acts_of actions_of
acts_of-targets m targets = refl

acts_of-none : (m : Machine) → acts_of m [] ≡ []
unfolding acts_of actions_of
acts_of-none m = refl

none_below : (acts due : List Action) → due ≡ [] → length acts < length due → ⊥
none_below acts due none less = absurd (let zero : length due ≡ 0 = ap (λ (xs : List Action). length xs) none in omega (arith, less, zero))

-- of the two events before those of the world, all is written
module _ (s : Settings) (targets : Targets) (groups : List Group) (written : List ℕ) (acts : List Action) where
  abbrev first : List Event
  first = Aims targets ∷ Locals groups ∷ []

  heard_all : (heard rest : List Event) → first ≡ heard ++ rest → length acts < length (all_actions s heard) → heard ≡ first
  heard_all [] rest split less = absurd (none_below acts (all_actions s []) (acts_of-none (start_of s)) less)
  heard_all (x ∷ []) rest split less =
      let same : Aims targets ≡ x = cc in
      absurd (none_below acts (all_actions s (x ∷ [])) (ap (λ (e : Event). all_actions s (e ∷ [])) (sym same) ∙ acts_of-targets (start_of s) targets) less)
  heard_all (x ∷ y ∷ heard) rest split less =
      let lengths : length first ≡ length ((x ∷ y ∷ heard) ++ rest) = ap (λ (es : List Event). length es) split in
      let none : heard ++ rest ≡ [] = cc in
      let over : heard ≡ [] = no_more heard rest none in
      let a : Aims targets ≡ x = cc in
      let b : Locals groups ≡ y = cc in
      ap (λ (es : List Event). x ∷ y ∷ es) over ∙ ap (λ (e : Event). e ∷ y ∷ []) (sym a) ∙ ap (λ (e : Event). Aims targets ∷ e ∷ []) (sym b)
    where
      no_more : (xs ys : List Event) → xs ++ ys ≡ [] → xs ≡ []
      no_more [] ys e = refl
      no_more (x ∷ xs) ys e = absurd cc

  said_all : SaysUpTo s (first ++ []) written acts → written ≡ text_up_to s (first ++ [])
  said_all says = by_why says.why
    where
      by_why : (says.heard ≡ first ++ []) ⊎ (length acts < length (all_actions s says.heard)) → written ≡ text_up_to s (first ++ [])
      by_why (inl all) = says.written_is ∙ ap (λ (es : List Event). text_up_to s es) all
      by_why (inr less) = says.written_is ∙ ap (λ (es : List Event). text_up_to s es) (heard_all says.heard says.front.rest (sym (append-nil first) ∙ says.front.split) less ∙ sym (append-nil first))

  -- where the world fails, only `end` is missing
  pub said_but_end : (count : ℕ) (ended : Bool) (events : List Event) → IsDriven outcomes.WorldFault s first count ended events written acts →
      written ≡ text_up_to s (first ++ events)
  said_but_end count ended [] driven = said_all driven.2
  said_but_end count ended (event ∷ events) driven = driven.1 (omega arith)

pub but_end : (s : Settings) (targets : Targets) (groups : List Group) (count : ℕ) (t0 t1 : Option (List Event)) (d0 d1 : Option (List Action)) (ended : Bool) (o0 o1 : Option (List ℕ)) (o : Outcome)
    (drives : Drives s (Aims targets ∷ Locals groups ∷ []) count t0 t1 d0 d1 ended o0 o1 o) → o ≡ outcomes.WorldFault →
    drives.written ≡ text_up_to s ((Aims targets ∷ Locals groups ∷ []) ++ drives.events)
but_end s targets groups count t0 t1 d0 d1 ended o0 o1 o drives world =
    said_but_end s targets groups drives.written drives.acts count ended drives.events
    (subst (λ (r : Outcome). IsDriven r s (Aims targets ∷ Locals groups ∷ []) count ended drives.events drives.written drives.acts) world drives.is_driven)

-- ---- the events before those of the world

pub first_within : (targets : Targets) (groups : List Group) → targets_fault targets ≡ None → All HasValencies groups → All IsWithinLimits (Aims targets ∷ Locals groups ∷ [])
first_within targets groups t g =
    All-cons IsWithinLimits (Aims targets) (Locals groups ∷ []) t (All-cons IsWithinLimits (Locals groups) [] g (All-nil IsWithinLimits))
