-- Items that are lent.
use Rattle.mux_segment.specs.declared.item.Item.{Item}
use Rattle.mux_segment.specs.declared.lent_item.LentItem.{LentItem}

-- the item that it is
abbrev pub lent : LentItem → Item
lent i = record { side = i.side; id = i.id; body = i.body.now }
