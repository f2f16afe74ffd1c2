-- Where a link stands among the others.
use Rattle.conn_table.specs.declared.placed.Placed.{Placed}
use Rattle.govern_rules.specs.declared.link.Link.{Link}

-- its address and id
abbrev pub place_of : Link → Placed
place_of l = record { addr = l.addr; cid = l.cid }
