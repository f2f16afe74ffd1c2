-- What is still to come of an item where a scan stopped inside it: the arrays, maps, tags and indefinite strings that are open there.
use Rattle.std.specs.Prelude.{◌-◌, List, [], ◌∷◌, length, Ok}
use Rattle.cbor_items.specs.declared.level.Thing.{Thing}
use Rattle.cbor_items.specs.declared.level.Thing.TheVariants.{Item, Entry, ByteChunk, TextChunk}
use Rattle.cbor_items.specs.declared.level.Level.{Level}
use Rattle.cbor_items.specs.declared.level.Level.TheVariants.{Items, Value, ToBreak}
use Rattle.cbor_items.specs.Reading.{◌>>=◌}
use Rattle.cbor_items.specs.Item.{level_limit}
use Rattle.cbor_items.specs.Scan.{Skip, skip_pair, skip_row, skip_to_break, skip_chunk, skip_item}

-- the things that stand up to a break, where items are passed over by `item`
abbrev pub skip_thing : Skip → Thing → Skip
skip_thing item Item = item
skip_thing item Entry = skip_pair item item
skip_thing item ByteChunk = skip_chunk 2
skip_thing item TextChunk = skip_chunk 3

-- what is still to come on a level
abbrev pub skip_level : Skip → Level → Skip
skip_level item (Items count) bytes = skip_row item count bytes
skip_level item Value bytes = item bytes >>= λ rest. skip_to_break (skip_pair item item) (length rest) rest
skip_level item (ToBreak thing) bytes = skip_to_break (skip_thing item thing) (length bytes) bytes

-- what is still to come on all levels, the innermost first. Inside each one level less may be opened than beside it
unfoldable pub skip_open : List Level → Skip
skip_open [] bytes = Ok bytes
skip_open (level ∷ around) bytes = skip_level (skip_item (level_limit - length around)) level bytes >>= skip_open around
