-- The step of the machine for each event.
use Rattle.net_base.specs.declared.event.Event.{Event}
use Rattle.net_base.specs.declared.event.Event.TheVariants.{Now, Govern, Accepted, Dialed, Bytes, Closed, Aims, Locals, Roots, BigAims, Bigs}
use Rattle.machine.specs.Machine.{Machine}
use Rattle.machine.specs.Effect.{Effect}
use Rattle.machine.specs.Events.{clock_shows, peer_connects, peer_closes, dial_ends}
use Rattle.machine.specs.Govern.{govern}
use Rattle.machine.specs.Provided.{targets_are, big_targets_are, locals_are, bigs_are, roots_answer}
use Rattle.machine.specs.Stream.{bytes_come_in}

abbrev pub step : Machine → Event → Effect
step m (Now t) = clock_shows t m
step m (Govern word) = govern word m
step m (Accepted addr) = peer_connects addr m
step m (Dialed cid opened) = dial_ends cid opened m
step m (Bytes cid bytes) = bytes_come_in cid bytes m
step m (Closed cid) = peer_closes cid m
step m (Aims targets) = targets_are targets m
step m (Locals groups) = locals_are groups m
step m (Roots job answer) = roots_answer job answer m
step m (BigAims targets) = big_targets_are targets m
step m (Bigs addrs) = bigs_are addrs m
