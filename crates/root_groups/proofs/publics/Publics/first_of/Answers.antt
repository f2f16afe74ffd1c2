use Rattle.std.proofs.Common.{◌<◌, ◌≤◌, ◌∙◌, length, sym, ap, arith, drop}
use Rattle.root_groups.proofs.FirstPlaces.{so_far_step, so_far_end, so_far_full}
use Rattle.root_groups.proofs.publics.Publics.first_of.Goals as goal
use Rattle.root_groups.proofs.publics.Publics.first_of.Goals.{else-loop-addr-test, then-loop-addr-test+then-as_slice-target}

pub loop-addr-preserved : goal.loop-addr-preserved
loop-addr-preserved c =
    let held = c.loop-addr.invariant in
    let room : length c.loop-addr.list < c.args.target = omega (arith, ap length c.as_slice.ensures) in
    record {
      same = c.in_ok-put.ensures.same;
      so_far = so_far_step c.args.own c.args.target c.loop-addr.addr-index c.loop-addr.list c.put.new.list c.args.addrs.now _ _
          held.so_far c.loop-addr-test.true room c.in_ok-put.ensures.listed;
    }

pub returns : goal.returns
returns c =
    let held = c.loop-addr.invariant in
    elim c.loop-addr-test.branch [
      | else-loop-addr-test w ↦
          so_far_end c.args.own c.args.target c.loop-addr.addr-index c.loop-addr.list c.args.addrs.now _ held.so_far (omega arith)
      | then-loop-addr-test+then-as_slice-target w ↦
          let full : c.args.target ≤ length c.loop-addr.list = omega (arith, ap length w.as_slice.ensures) in
          sym (held.so_far ∙ so_far_full c.args.own c.args.target c.loop-addr.list (drop c.loop-addr.addr-index c.args.addrs.now) full)
    ]
