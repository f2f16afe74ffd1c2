use Rattle.std.proofs.Common.{ℕ, List, Bor}
use Rattle.std.specs.Prelude.{reverse}
use Rattle.std.proofs.lemmas.Result.{err_from_is_err_and}
use Rattle.cbor_items.specs.Level.{skip_open}
use Rattle.cbor_items.specs.Steps.{levels_of}
use Rattle.cbor_items.proofs.Resumes.{break_missing, break_step, things_step}
use Rattle.cbor_items.proofs.item_scan.pass_to_break.Goals as goal

abbrev view : Bor (List ℕ) → List ℕ
view rest = rest.now

pub returns-in_err-rest-clause-step : goal.returns-in_err-rest-clause-step
returns-in_err-rest-clause-step c =
    let p = err_from_is_err_and c.from_residual.result c.from_residual.ensures.1 in
    rw (p.1, p.2, c.in_err-rest.ensures.1, c.requires, c.in_err-rest.ensures.0) (break_missing (reverse c.args.levels.now.around.items) c.args.thing)

pub returns-in-Some-clause-step : goal.returns-in-Some-clause-step
returns-in-Some-clause-step c =
    rw (c.requires, rw c.in-Some.is at c.in_ok-rest.ensures) (break_step (reverse c.args.levels.now.around.items) c.args.thing c.in-Some.rest.now)

pub returns-in-None-clause-step : goal.returns-in-None-clause-step
returns-in-None-clause-step c =
    let other = rw c.in-None.is at c.in_ok-rest.ensures in
    rw (c.requires, other.joined)
    (things_step (reverse c.args.levels.now.around.items) view c.args.thing (skip_open (levels_of c.pass_thing.new.levels)) other.first other.rest
    c.pass_thing.result other.no_break (rw other.joined at c.pass_thing.ensures.step))
