use Rattle.std.proofs.Common.{◌≡◌, ◌∷◌, ◌-◌, ℕ, suc, List, Bor, length, arith}
use Rattle.std.specs.Prelude.{reverse}
use Rattle.cbor_items.specs.declared.level.Level.TheVariants.{Items}
use Rattle.cbor_items.specs.Item.{level_limit}
use Rattle.cbor_items.specs.Scan.{skip_pair, skip_item}
use Rattle.cbor_items.specs.Level.{skip_open}
use Rattle.cbor_items.specs.Steps.{levels_of}
use Rattle.cbor_items.proofs.Resumes.{steps_from, items_step}
use Rattle.cbor_items.proofs.item_scan.pass_items.Goals as goal

abbrev view : Bor (List ℕ) → List ℕ
view rest = rest.now

pub returns-in-Some-clause-step : goal.returns-in-Some-clause-step
returns-in-Some-clause-step c =
    let around = reverse c.args.levels.now.around.items in
    let item = skip_item (level_limit - length around) in
    let count = c.args.count in
    let left = c.in-Some.left in
    let more : count ≡ suc left = omega (arith, c.in-Some.ensures) in
    rw c.requires.here
    (steps_from view (skip_open (Items count ∷ around)) (skip_pair item (skip_open (Items left ∷ around)))
    (skip_open (levels_of c.pass_item.new.levels)) c.args.bytes.now c.pass_item.result (items_step around count left more) c.pass_item.ensures.step)
