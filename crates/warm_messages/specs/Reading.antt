-- Reading messages from left to right. That this reads what is spelled is a law.
use Rattle.std.specs.Prelude.{◌≡◌, ℕ, zero, suc, ◌+◌, ◌==◌, nat_lt, List, [], ◌∷◌, length, Option, Some, None, option_map, if◌then◌else◌}
use Rattle.cbor_items.specs.declared.head.Head.{Head}
use Rattle.cbor_items.specs.Front.{Reader, ◌>>=◌, whole, any_head_at, number_at}
use Rattle.net_base.specs.declared.address.Addr.{Addr}
use Rattle.warm_messages.specs.declared.unread.Unread.{Unread}
use Rattle.warm_messages.specs.declared.unread.Unread.TheVariants.{NoMessage, OutOfMemory}
use Rattle.warm_messages.specs.declared.array.Length.{Length}
use Rattle.warm_messages.specs.declared.array.Length.TheVariants.{Of, ToBreak}
use Rattle.warm_messages.specs.declared.alive.Alive.{Alive}
use Rattle.warm_messages.specs.declared.alive.Alive.TheVariants as alive
use Rattle.warm_messages.specs.declared.share.Share.{Share}
use Rattle.warm_messages.specs.declared.share.Share.TheVariants as share
use Rattle.warm_messages.specs.Address.{address_of}

abbrev pub length_of : Head → Length
length_of head = if head.indefinite then ToBreak else Of head.value

-- the head of an array
unfoldable pub opening_at : Reader Length
opening_at bytes = any_head_at bytes >>= λ read. if read.0.major == 4 then Some (length_of read.0, read.1) else None

abbrev pub behind_break : List ℕ → Option (List ℕ)
behind_break [] = None
behind_break (byte ∷ rest) = if byte == 0xff then Some rest else None

-- the bytes behind an array, where it ends after so many elements
abbrev pub ending_at : Length → ℕ → List ℕ → Option (List ℕ)
ending_at (Of n) count bytes = if n == count then Some bytes else None
ending_at ToBreak count bytes = behind_break bytes

abbrev pub ended : {A : Type 0} → Option (List ℕ) → Option (List A × List ℕ) → Option (List A × List ℕ)
ended (Some rest) more = Some ([], rest)
ended None more = more

-- the elements of an array behind so many, and at most so many more
unfoldable pub elements_at : {A : Type 0} → Reader A → Length → ℕ → ℕ → Reader (List A)
elements_at thing size count zero bytes = ended (ending_at size count bytes) None
elements_at thing size count (suc most) bytes = ended (ending_at size count bytes)
    (thing bytes >>= λ one. elements_at thing size (count + 1) most one.1 >>= λ others. Some (one.0 ∷ others.0, others.1))

-- an array of at most so many elements
abbrev pub array_at : {A : Type 0} → Reader A → ℕ → Reader (List A)
array_at thing most bytes = opening_at bytes >>= λ opened. elements_at thing opened.0 0 most opened.1

-- No message has an array of more than eight numbers.
unfoldable pub numbers_at : Reader (List ℕ)
numbers_at bytes = array_at number_at 8 bytes

unfoldable pub address_at : Reader Addr
address_at bytes = numbers_at bytes >>= λ read. address_of read.0 >>= λ addr. Some (addr, read.1)

-- Each address has a byte at least.
unfoldable pub addresses_at : Reader (List Addr)
addresses_at bytes = array_at address_at (length bytes) bytes

-- ---- keep-alive

abbrev pub cookie_message : ℕ → ℕ → Option Alive
cookie_message kind cookie =
    if nat_lt cookie 65536
    then (if kind == 0 then Some (alive.Ask cookie) else (if kind == 1 then Some (alive.Reply cookie) else None))
    else None

abbrev pub alive_of_numbers : List ℕ → Option Alive
alive_of_numbers (kind ∷ []) = if kind == 2 then Some alive.Done else None
alive_of_numbers (kind ∷ cookie ∷ []) = cookie_message kind cookie
alive_of_numbers numbers = None

-- the keep-alive message that the bytes are
unfoldable pub alive_of : List ℕ → Option Alive
alive_of bytes = whole (numbers_at bytes) >>= alive_of_numbers

-- ---- peer sharing

abbrev pub share_of_numbers : List ℕ → Option Share
share_of_numbers (kind ∷ []) = if kind == 2 then Some share.Done else None
share_of_numbers (kind ∷ n ∷ []) = if kind == 0 then Some (share.Request n) else None
share_of_numbers numbers = None

-- the addresses of a peers message
abbrev pub peers_in : Length → Reader (List Addr)
peers_in size bytes = number_at bytes >>= λ kind.
    if kind.0 == 1
    then (addresses_at kind.1 >>= λ peers. ending_at size 2 peers.1 >>= λ rest. Some (peers.0, rest))
    else None

unfoldable pub peers_at : Reader (List Addr)
peers_at bytes = opening_at bytes >>= λ opened. peers_in opened.0 opened.1

-- an address behind the head of an array
abbrev pub first_in : Reader Addr
first_in bytes = opening_at bytes >>= λ opened. address_at opened.1

-- the first address of a peers message
abbrev pub first_peer_at : Reader Addr
first_peer_at bytes = opening_at bytes >>= λ opened. number_at opened.1 >>= λ kind. if kind.0 == 1 then first_in kind.1 else None

abbrev pub share_by : Option (List ℕ) → List ℕ → Option Share
share_by (Some numbers) bytes = share_of_numbers numbers
share_by None bytes = option_map share.Peers (whole (peers_at bytes))

-- the peer-sharing message that the bytes are
unfoldable pub share_of : List ℕ → Option Share
share_of bytes = share_by (whole (numbers_at bytes)) bytes

-- ---- what a function returned that may want memory

-- what an error says of a reading: want of memory says nothing
abbrev pub UnreadSays : {X : Type 0} → Unread → Option X → Type 0
UnreadSays NoMessage read = read ≡ None
UnreadSays OutOfMemory read = Unit {0}
