use Rattle.std.proofs.Common.{◌≡◌, take, true}
use Rattle.node_world.specs.Meanings.{with_more}
use Rattle.world_play.proofs.driving.act_all.Given as goal

-- the actions so far are done
abbrev pub invariant-loop-action : goal.invariant-loop-action
invariant-loop-action g l = record {
  done : g.W.World.done l.world ≡ with_more (g.W.World.done l.initial.world) (take l.action-index l.actions);
  opened : g.W.World.is_open l.world ≡ true;
  opening : g.W.World.opening l.world ≡ g.W.World.opening l.initial.world;
  ended : g.W.World.has_ended l.world ≡ g.W.World.has_ended l.initial.world;
  taken : g.W.World.taken l.world ≡ g.W.World.taken l.initial.world;
  worlds : g.W.World.faults l.world ≡ g.W.World.faults l.initial.world;
}
