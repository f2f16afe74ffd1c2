-- A seat's calls are those of its governor in the history that it has seen.
use Rattle.std.proofs.Common.{◌≡◌, List, [], ◌∷◌, ◌++◌, length, refl, ap, ◌∙◌, append-nil, arith}
use Rattle.std.proofs.lemmas.List.{length-append}
use Rattle.shared_table.specs.Entries.{calls_of, count_of, entry_of, noted, who_of}
use Rattle.shared_table.specs.Views.{Begins}
use Rattle.shared_table.specs.declared.call.TableCall.{TableCall}
use Rattle.shared_table.specs.declared.call.TableCall.TheVariants as calls
use Rattle.shared_table.specs.declared.entry.Entry.{Entry}
use Rattle.shared_table.specs.declared.entry.Noted.{Noted}
use Rattle.shared_table.specs.declared.reply.TableReply.{TableReply}
use Rattle.shared_table.specs.declared.who.Who.{Who}
use Rattle.shared_table.proofs.TearLemmas.{calls_of-append}

no_more : (xs : List Noted) → length xs ≡ 0 → xs ≡ []
no_more [] none = refl
no_more (x ∷ xs) none = absurd (omega arith)

-- where there are as many calls as were kept, the history has no others than those that were seen
pub all_seen : (who : Who) (seen history : List Entry) (kept : List Noted) → Begins seen history → calls_of who seen ≡ kept → length kept ≡ count_of who history →
    calls_of who history ≡ kept
all_seen who seen history kept begins are many =
    let all : calls_of who history ≡ calls_of who seen ++ calls_of who begins.more = ap (calls_of who) begins.are ∙ calls_of-append who seen begins.more in
    let none : calls_of who begins.more ≡ [] =
    no_more (calls_of who begins.more) (omega (arith, ap length all, ap length are, many, length-append (calls_of who seen) (calls_of who begins.more))) in
    all ∙ (ap (λ l. calls_of who seen ++ l) none ∙ (append-nil (calls_of who seen) ∙ are))

one_call : (call : TableCall) (reply : TableReply) → calls_of (who_of call) (entry_of call reply ∷ []) ≡ noted call reply ∷ []
one_call (calls.Out call) reply = refl
one_call (calls.In call) reply = refl

-- one call more
pub seen_grows : (call : TableCall) (reply : TableReply) (seen history after : List Entry) (kept : List Noted) → Begins seen history → calls_of (who_of call) seen ≡ kept →
    length kept ≡ count_of (who_of call) history → after ≡ history ++ entry_of call reply ∷ [] → calls_of (who_of call) after ≡ kept ++ noted call reply ∷ []
seen_grows call reply seen history after kept begins are many is =
    let who = who_of call in
    ap (calls_of who) is ∙ (calls_of-append who history (entry_of call reply ∷ []) ∙ (ap (λ l. l ++ calls_of who (entry_of call reply ∷ [])) (all_seen who seen history kept begins are many) ∙ ap (λ l. kept ++ l) (one_call call reply)))
