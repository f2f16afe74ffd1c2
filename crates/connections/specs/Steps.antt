-- What a step makes of a connection.
use Rattle.std.specs.Prelude.{Bool, true, false, not, if◌then◌else◌}
use Rattle.conn_table.specs.Conditions.{after_step}
use Rattle.conn_table.specs.declared.step.Step.{Step}
use Rattle.conn_table.specs.declared.step.Step.TheVariants.{Connected, Negotiated, Acquire, Release, Awake, Idle, GraceOver}
use Rattle.machine.specs.Machine.{Entry}
use Rattle.mux_segment.specs.Stream.{nothing_fed}
use Rattle.net_base.specs.Shared.{nothing_undecoded}
use Rattle.net_base.specs.declared.connection.Facts.{Facts}
use Rattle.connections.specs.Talks.{with_cutter}
use Rattle.connections.specs.declared.talk.Talk.{Talk}

-- This side closes by it: the grace is over of a connection that this side does not use.
abbrev pub closes : Step → Facts → Bool
closes (Connected until) f = false
closes (Negotiated agreed until) f = false
closes Acquire f = false
closes (Release until) f = false
closes (Awake protocol) f = false
closes (Idle protocol until) f = false
closes (GraceOver until) f = not f.local

-- Its phase stays: it is taken into use or used no more, or a responder starts or stops.
abbrev pub keeps_phase : Step → Bool
keeps_phase (Connected until) = false
keeps_phase (Negotiated agreed until) = false
keeps_phase Acquire = true
keeps_phase (Release until) = true
keeps_phase (Awake protocol) = true
keeps_phase (Idle protocol until) = true
keeps_phase (GraceOver until) = false

-- its facts move, and nothing more is read of one that this side closes
abbrev pub stepped : Step → Entry → Entry
stepped step entry = record entry {
  facts = after_step step entry.facts;
  undecoded = if closes step entry.facts then nothing_undecoded else entry.undecoded;
}

-- what came in and is not decoded is dropped where the connection is closed
abbrev pub unread_if : Bool → Talk → Talk
unread_if closed talk = if closed then with_cutter nothing_fed talk else talk
