use Rattle.std.proofs.Common.{ℕ, ◌-◌, ◌∷◌, List, Bor, length, arith}
use Rattle.std.specs.Prelude.{reverse}
use Rattle.cbor_items.specs.declared.level.Thing.TheVariants.{Entry, ByteChunk, TextChunk}
use Rattle.cbor_items.specs.declared.level.Level.TheVariants.{Value, ToBreak}
use Rattle.cbor_items.specs.Item.{level_limit}
use Rattle.cbor_items.specs.Scan.{skip_pair, skip_item}
use Rattle.cbor_items.specs.Level.{skip_thing, skip_open}
use Rattle.cbor_items.specs.Steps.{levels_of}
use Rattle.cbor_items.proofs.Resumes.{steps_from, entry_step, chunk_goes, text_goes, chunk_shorter, text_shorter}
use Rattle.cbor_items.proofs.item_scan.pass_thing.Goals as goal

abbrev view : Bor (List ℕ) → List ℕ
view rest = rest.now

pub returns-in-Entry-clause-step : goal.returns-in-Entry-clause-step
returns-in-Entry-clause-step c =
    let around = reverse c.args.levels.now.around.items in
    let item = skip_item (level_limit - length around) in
    rw c.in-Entry.is
    (steps_from view (skip_pair (skip_thing item Entry) (skip_open (ToBreak Entry ∷ around))) (skip_pair item (skip_open (Value ∷ around)))
    (skip_open (levels_of c.pass_item-in-Entry.new.levels)) c.args.bytes.now c.pass_item-in-Entry.result (entry_step around) c.pass_item-in-Entry.ensures.step)

pub returns-in_ok-skip_chunk-in-ByteChunk-clause-step : goal.returns-in_ok-skip_chunk-in-ByteChunk-clause-step
returns-in_ok-skip_chunk-in-ByteChunk-clause-step c =
    let around = reverse c.args.levels.now.around.items in
    rw (c.requires, c.in-ByteChunk.is)
    (chunk_goes (skip_open (ToBreak ByteChunk ∷ around)) c.args.bytes.now c.in_ok-skip_chunk-in-ByteChunk.field-0.now c.in_ok-skip_chunk-in-ByteChunk.ensures)

pub returns-in_ok-skip_chunk-in-ByteChunk-clause-less : goal.returns-in_ok-skip_chunk-in-ByteChunk-clause-less
returns-in_ok-skip_chunk-in-ByteChunk-clause-less c =
    omega (arith, chunk_shorter c.args.bytes.now c.in_ok-skip_chunk-in-ByteChunk.field-0.now c.in_ok-skip_chunk-in-ByteChunk.ensures)

pub returns-in_ok-skip_chunk-in-TextChunk-clause-step : goal.returns-in_ok-skip_chunk-in-TextChunk-clause-step
returns-in_ok-skip_chunk-in-TextChunk-clause-step c =
    let around = reverse c.args.levels.now.around.items in
    rw (c.requires, c.in-TextChunk.is)
    (text_goes (skip_open (ToBreak TextChunk ∷ around)) c.args.bytes.now c.in_ok-skip_chunk-in-TextChunk.field-0.now c.in_ok-skip_chunk-in-TextChunk.ensures)

pub returns-in_ok-skip_chunk-in-TextChunk-clause-less : goal.returns-in_ok-skip_chunk-in-TextChunk-clause-less
returns-in_ok-skip_chunk-in-TextChunk-clause-less c =
    omega (arith, text_shorter c.args.bytes.now c.in_ok-skip_chunk-in-TextChunk.field-0.now c.in_ok-skip_chunk-in-TextChunk.ensures)
