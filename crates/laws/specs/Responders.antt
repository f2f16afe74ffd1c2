-- Which protocols the other side runs.
use Rattle.std.specs.Prelude.{◌≡◌, ◌==◌, true, not, Option, Some, None, Result, Ok, Err}
use Rattle.laws.specs.Words.{is_negotiated, agreed_sharing, with_responder, Item, FaultKind, Machine, Entry, entry_at, watched, Seen}
use Rattle.laws.specs.Acts.{Act, handles_item}

abbrev pub WhereSeen : Result Seen FaultKind → (Seen → Type 0) → Type 0
WhereSeen (Err kind) law = Unit {0}
WhereSeen (Ok seen) law = law seen

-- The handshake is done, the item is of the other side's half, and it is what may come there.
abbrev pub WhereAsked : Item → Option Entry → (Entry → Seen → Type 0) → Type 0
WhereAsked item None law = Unit {0}
WhereAsked item (Some e) law = is_negotiated e.facts ≡ true → (item.side == 0) ≡ true → WhereSeen (watched item.id (agreed_sharing e.facts.agreed) item.body) (law e)

abbrev pub WhereThere : Option Entry → (Entry → Type 0) → Type 0
WhereThere None law = Unit {0}
WhereThere (Some e) law = law e

-- Where the connection stands after it, the item's protocol runs, unless the item ends it, and every other one is as it was.
abbrev pub RespondsRight : Act → Machine → Machine → Type 0
RespondsRight (handles_item own item) before after = WhereAsked item (entry_at own.0 before)
    (λ e seen. WhereThere (entry_at own.0 after) (λ f. f.facts.running ≡ with_responder item.id (not seen.done) e.facts.running))
RespondsRight other before after = Unit {0}
