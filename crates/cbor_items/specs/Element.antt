-- What arrays and maps are rows of.
use Rattle.cbor_items.specs.declared.item.Element.{Element}
use Rattle.cbor_items.specs.declared.item.Element.TheVariants.{Item, Entry}
use Rattle.cbor_items.specs.Scan.{Skip, skip_pair}

abbrev pub element_of : Skip → Element → Skip
element_of item Item = item
element_of item Entry = skip_pair item item
