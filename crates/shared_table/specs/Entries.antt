-- Who makes a call, and what each caller has in a history.
use Rattle.std.specs.Prelude.{ℕ, Bool, true, false, List, [], ◌∷◌, length, if◌then◌else◌}
use Rattle.shared_table.specs.declared.call.TableCall.{TableCall}
use Rattle.shared_table.specs.declared.call.TableCall.TheVariants as call
use Rattle.shared_table.specs.declared.entry.Entry.{Entry}
use Rattle.shared_table.specs.declared.entry.Noted.{Noted}
use Rattle.shared_table.specs.declared.reply.TableReply.{TableReply}
use Rattle.shared_table.specs.declared.who.Who.{Who}
use Rattle.shared_table.specs.declared.who.Who.TheVariants.{Out, In}

abbrev pub who_of : TableCall → Who
who_of (call.Out c) = Out
who_of (call.In c) = In

-- a call in the history, with its reply
abbrev pub entry_of : TableCall → TableReply → Entry
entry_of call reply = record { who = who_of call; call = call; reply = reply }

-- a call as its caller keeps it
abbrev pub noted : TableCall → TableReply → Noted
noted call reply = record { call = call; reply = reply }

abbrev pub noted_in : Entry → Noted
noted_in e = noted e.call e.reply

abbrev pub same_who : Who → Who → Bool
same_who Out Out = true
same_who Out In = false
same_who In Out = false
same_who In In = true

-- the calls of one caller with their replies, in their order
abbrev pub calls_of : Who → List Entry → List Noted
calls_of who [] = []
calls_of who (e ∷ es) = if same_who who e.who then noted_in e ∷ calls_of who es else calls_of who es

-- how many calls one caller has made
abbrev pub count_of : Who → List Entry → ℕ
count_of who es = length (calls_of who es)
