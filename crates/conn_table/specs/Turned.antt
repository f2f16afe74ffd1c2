-- What a move makes of the state of a connection, and what is told of it.
use Rattle.std.specs.Prelude.{◌≡◌}
use Rattle.conn_state.specs.Counted.{is_counted}
use Rattle.conn_state.specs.State.{facts_of, HasShape}
use Rattle.conn_state.specs.declared.state.ConnState.{ConnState}
use Rattle.conn_table.specs.Conditions.{after_step}
use Rattle.conn_table.specs.declared.step.Step.{Step}
use Rattle.conn_table.specs.declared.step.Turned.{Turned}

pub record HasTurned (step : Step) (old new : ConnState) (turned : Turned) : Type 0 where
  pub shape : HasShape old
  pub facts : facts_of new ≡ after_step step (facts_of old)
  pub was : turned.was ≡ facts_of old
  pub counted : turned.counted ≡ is_counted (facts_of new)
