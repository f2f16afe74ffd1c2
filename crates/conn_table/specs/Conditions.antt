-- When a connection may make a move.
use Rattle.std.specs.Prelude.{ℕ, ◌≡◌, true, false}
use Rattle.net_base.specs.declared.connection.Facts.{Facts}
use Rattle.conn_state.specs.Moves.{connected, acquired, released, awakened, idled}
use Rattle.conn_table.specs.Choices.{negotiated, grace_ended}
use Rattle.conn_state.specs.Protocols.{has_responder}
use Rattle.conn_state.specs.Shapes.{serves_remote}
use Rattle.conn_state.specs.Use.{is_dialing, is_greeting, is_negotiated, is_acquirable, runs}
use Rattle.conn_table.specs.Answers.{is_due}
use Rattle.conn_table.specs.declared.step.Step.{Step}
use Rattle.conn_table.specs.declared.step.Step.TheVariants.{Connected, Negotiated, Acquire, Release, Awake, Idle, GraceOver}

-- the other side may start the responder of a protocol
pub record CanAwake (protocol : ℕ) (f : Facts) : Type 0 where
  pub negotiated : is_negotiated f ≡ true
  pub serves : serves_remote f ≡ true
  pub silent : runs protocol f.running ≡ false

-- what a step makes of the facts
abbrev pub after_step : Step → Facts → Facts
after_step (Connected until) = connected until
after_step (Negotiated agreed until) = negotiated agreed until
after_step Acquire = acquired
after_step (Release until) = released until
after_step (Awake protocol) = awakened protocol
after_step (Idle protocol until) = idled protocol until
after_step (GraceOver until) = grace_ended until

abbrev pub CanStep : Step → Facts → Type 0
CanStep (Connected until) f = is_dialing f ≡ true
CanStep (Negotiated agreed until) f = is_greeting f ≡ true
CanStep Acquire f = is_acquirable f ≡ true
CanStep (Release until) f = f.local ≡ true
CanStep (Awake protocol) f = (has_responder protocol ≡ true) × CanAwake protocol f
CanStep (Idle protocol until) f = runs protocol f.running ≡ true
CanStep (GraceOver until) f = (now : ℕ) × (is_due now f.grace ≡ true)
