-- What is answered to what the other side asks, and who is told of to one that asks for addresses.
use Rattle.std.specs.Prelude.{ℕ, ◌≡◌, ◌≤◌, Bool, true, false, not, ◌&&◌, ◌||◌, List, [], ◌∷◌, length, map}
use Rattle.laws.specs.Words.{AllByRecursion, flat_map, list_any, frame_of, Item, same_address, Action, Send, Addr, reply_bytes_of, Reply, Seen, is_listed, Effect, Machine, Entry, entry_at}
use Rattle.laws.specs.Words.reply
use Rattle.laws.specs.Acts.{Act, handles_item}
use Rattle.laws.specs.AtMoves.{is_known}
use Rattle.laws.specs.Laws.{is_local}
use Rattle.laws.specs.Responders.{WhereAsked, WhereThere}

-- bytes that are sent, and on which connection
pub record Sent : Type 0 where
  pub cid : ℕ
  pub bytes : List ℕ

abbrev pub sent_by : Action → List Sent
sent_by (Send cid bytes) = record { cid = cid.0; bytes = bytes } ∷ []
sent_by other = []

abbrev pub sent_in : List Action → List Sent
sent_in actions = flat_map sent_by actions

-- a member of a group that is advertised, or of no group and no public root
abbrev pub is_tellable : Machine → Addr → Bool
is_tellable m addr =
    list_any (λ group. group.advertise && is_listed addr group.members) m.groups
    || (not (is_local m.groups addr) && not (is_listed addr m.roots.publics))

-- Of the peers in the book, who may be told of to one that asks. The own address is in no book.
pub record MayBeTold (asker : Addr) (m : Machine) (addr : Addr) : Type 0 where
  pub known : is_known addr m ≡ true
  pub tellable : is_tellable m addr ≡ true
  pub other : same_address addr asker ≡ false

-- how many addresses an answer may have
abbrev pub most_in : Reply → ℕ
most_in (reply.Share n) = n
most_in other = 0

-- one message, or none
abbrev pub messages_of : Reply → List Addr → List (List ℕ)
messages_of reply.Nothing told = []
messages_of other told = reply_bytes_of other told ∷ []

-- What is sent is the answer, and nothing else; where addresses are asked for it tells no more than that many, and nobody but
-- who may be told of.
pub record IsAnswered (item : Item) (e : Entry) (seen : Seen) (before : Machine) (effect : Effect) : Type 0 where
  pub told : List Addr
  pub few : length told ≤ most_in seen.reply
  pub each : AllByRecursion (MayBeTold e.facts.addr effect.machine) told
  pub sends : sent_in effect.actions
      ≡ map (λ message. record { cid = e.facts.cid.0; bytes = frame_of 1 item.id before.now message }) (messages_of seen.reply told)

-- Whoever asks on a connection that stands after it is answered.
abbrev pub AnswersRight : Act → Machine → Effect → Type 0
AnswersRight (handles_item own item) before effect =
    WhereAsked item (entry_at own.0 before) (λ e seen. WhereThere (entry_at own.0 effect.machine) (λ f. IsAnswered item e seen before effect))
AnswersRight other before effect = Unit {0}
