use Rattle.std.proofs.Common.{◌≡◌, ◌≤◌, length, arith}
use Rattle.share_rounds.specs.Rounds.{is_advertised, most_tellable, tellable_of}
use Rattle.share_rounds.proofs.Rules.{addresses_rise}
use Rattle.share_rounds.proofs.Steps.{run_looked_at, most_kept, all_peers_kept}
use Rattle.share_rounds.proofs.serving.tellable.Goals as goal
use Rattle.share_rounds.proofs.serving.tellable.Goals.{then-loop-place-test+else-as_slice-lt-MOST_TELLABLE, else-loop-place-test}

pub loop-place-preserved : goal.loop-place-preserved
loop-place-preserved c =
    let test = is_advertised c.args.groups.now c.args.roots.now.publics in
    let next = run_looked_at test most_tellable c.args.book.now c.run_from-run.result.now c.loop-place.place c.loop-place.kept c.keep_tellable.new.kept _
    c.loop-place.invariant.0 c.run_from-run.ensures.front c.in_ok-keep_tellable.ensures c.loop-place.invariant.1 in
    (next.fits, next.whole)

pub returns : goal.returns
returns c =
    let book = c.args.book.now in
    let kept = c.loop-place.kept in
    let test = is_advertised c.args.groups.now c.args.roots.now.publics in
    let first : kept ≡ tellable_of book c.args.groups.now c.args.roots.now.publics = elim c.loop-place-test.branch [
      | then-loop-place-test+else-as_slice-lt-MOST_TELLABLE w ↦
          let full : most_tellable ≤ length kept = rw w.as_slice.ensures at w.if-as_slice-lt-MOST_TELLABLE.false in
          most_kept most_tellable kept _ _ full c.loop-place.invariant.1
      | else-loop-place-test w ↦
          let past : length book ≤ c.loop-place.place = omega (arith, w.loop-place-test.false, c.len.ensures.value) in
          all_peers_kept test most_tellable book c.loop-place.place kept _ past c.loop-place.invariant.1
    ] in
    record { rising = addresses_rise book c.len.ensures.ordered; first = first }
