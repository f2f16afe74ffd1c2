use Rattle.std.proofs.Common.{◌≡◌, subst, arith}
use Rattle.root_groups.proofs.Placing.{AreNoted, noted_by_groups}
use Rattle.root_groups.proofs.places.Places.of.Goals as goal

pub returns : goal.returns
returns c =
    let groups = c.args.groups.now in
    let places = c.loop-place.places in
    let first : c.loop-place.place ≡ 0 = omega (arith, c.loop-place-test.false) in
    noted_by_groups groups places (subst (AreNoted groups places) first c.loop-place.invariant.1)
