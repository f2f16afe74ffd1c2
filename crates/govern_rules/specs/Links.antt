-- What the links say of an address.
use Rattle.std.specs.Prelude.{Bool, true, ◌&&◌, ◌||◌, not, List}
use Rattle.std.specs.List.{list_any}
use Rattle.net_base.specs.Address.{same_address}
use Rattle.net_base.specs.declared.address.Addr.{Addr}
use Rattle.govern_rules.specs.declared.link.Link.{Link}

-- some link with the address passes a test
abbrev pub some_link : (Link → Bool) → List Link → Addr → Bool
some_link test links addr = list_any (λ l. same_address l.addr addr && test l) links

-- there is an entry, be it one that this side has closed
abbrev pub is_linked : List Link → Addr → Bool
is_linked = some_link (λ l. true)

-- a dial of the address is on its way
abbrev pub is_pending : List Link → Addr → Bool
is_pending = some_link (λ l. l.pending)

-- there is a connection that can be taken into use
abbrev pub is_acquirable : List Link → Addr → Bool
is_acquirable = some_link (λ l. l.acquirable)

-- a reply is owed on chain-sync
abbrev pub owes_on_2 : List Link → Addr → Bool
owes_on_2 = some_link (λ l. l.owes2)

-- a reply is owed on peer-sharing
abbrev pub owes_on_10 : List Link → Addr → Bool
owes_on_10 = some_link (λ l. l.owes10)

-- a reply is owed on some protocol
abbrev pub owes_a_reply : List Link → Addr → Bool
owes_a_reply = some_link (λ l. l.owes2 || l.owes8 || l.owes10)

-- the connection in use agreed on peer sharing, and owes nothing on that protocol
abbrev pub can_share : List Link → Addr → Bool
can_share = some_link (λ l. l.local && l.sharing && not l.owes10)
