use Rattle.std.proofs.Common.{◌∷◌, ◌-◌, ℕ, List, Bor, length}
use Rattle.std.specs.Prelude.{reverse}
use Rattle.cbor_items.specs.declared.level.Thing.TheVariants.{Entry}
use Rattle.cbor_items.specs.declared.level.Level.TheVariants.{Value, ToBreak}
use Rattle.cbor_items.specs.Item.{level_limit}
use Rattle.cbor_items.specs.Scan.{skip_pair, skip_item}
use Rattle.cbor_items.specs.Level.{skip_open}
use Rattle.cbor_items.specs.Steps.{levels_of}
use Rattle.cbor_items.proofs.Resumes.{steps_from, value_step}
use Rattle.cbor_items.proofs.item_scan.step.Goals as goal

abbrev view : Bor (List ℕ) → List ℕ
view rest = rest.now

pub returns-in-Value-clause-step : goal.returns-in-Value-clause-step
returns-in-Value-clause-step c =
    let around = reverse c.args.levels.now.around.items in
    let item = skip_item (level_limit - length around) in
    rw c.in-Value.is
    (steps_from view (skip_open (Value ∷ around)) (skip_pair item (skip_open (ToBreak Entry ∷ around)))
    (skip_open (levels_of c.pass_item.new.levels)) c.args.bytes.now c.pass_item.result (value_step around) c.pass_item.ensures.step)
