-- A history with one call more.
use Rattle.std.proofs.Common.{◌≡◌, ◌+◌, List, [], ◌∷◌, ◌++◌, length, refl, sym, subst, ap, ◌∙◌, inl, inr}
use Rattle.std.proofs.lemmas.Bool.{cases_Bool}
use Rattle.conn_table.specs.Answers.{acquire_of, after_acquire}
use Rattle.conn_table.specs.Table.{Table, empty_table}
use Rattle.conn_table.specs.declared.acquire.Acquire.{Acquire}
use Rattle.conn_table.specs.declared.acquire.Acquire.TheVariants as acquire
use Rattle.shared_table.specs.Calls.{is_met, after_out, after_in, after_met, reply_to, table_after}
use Rattle.shared_table.specs.Entries.{entry_of, count_of}
use Rattle.shared_table.specs.Replay.{Replays}
use Rattle.shared_table.specs.declared.call.InCall.{InCall}
use Rattle.shared_table.specs.declared.call.InCall.TheVariants as ins
use Rattle.shared_table.specs.declared.call.OutCall.{OutCall}
use Rattle.shared_table.specs.declared.call.OutCall.TheVariants as outs
use Rattle.shared_table.specs.declared.call.TableCall.{TableCall}
use Rattle.shared_table.specs.declared.call.TableCall.TheVariants as calls
use Rattle.shared_table.specs.declared.entry.Entry.{Entry}
use Rattle.shared_table.specs.declared.reply.TableReply.{TableReply}
use Rattle.shared_table.specs.declared.who.Who.TheVariants.{Out, In}
use Rattle.shared_table.proofs.TearLemmas.{counted, same_calls}

-- ---- no call changes the settings

settings-acquired : (a : Acquire) (t : Table) → (after_acquire a t).settings ≡ t.settings
settings-acquired (acquire.Leased cid) t = refl
settings-acquired acquire.NoSuch t = refl
settings-acquired (acquire.NotReusable name) t = refl

settings-out : (call : OutCall) (t : Table) → (after_out call t).settings ≡ t.settings
settings-out (outs.Dial addr) t = refl
settings-out (outs.Connected cid now) t = refl
settings-out (outs.Agreed cid agreed now) t = refl
settings-out (outs.Acquire addr) t = settings-acquired (acquire_of addr t.facts) t
settings-out (outs.Release cid now) t = refl
settings-out (outs.DropOut cid) t = refl

settings-in : (call : InCall) (t : Table) → (after_in call t).settings ≡ t.settings
settings-in (ins.Admit addr now) t = refl
settings-in (ins.Agreed cid agreed now) t = refl
settings-in (ins.Awake cid protocol) t = refl
settings-in (ins.Idle cid protocol now) t = refl
settings-in (ins.GraceOver cid now) t = refl
settings-in (ins.DropIn cid) t = refl

settings-met : (call : TableCall) (t : Table) → (after_met call t).settings ≡ t.settings
settings-met (calls.Out call) t = settings-out call t
settings-met (calls.In call) t = settings-in call t

settings-after : (call : TableCall) (t : Table) → (table_after call t).settings ≡ t.settings
settings-after call t = elim (cases_Bool (is_met call t)) [
  | inl met ↦ rw met (settings-met call t)
  | inr unmet ↦ rw unmet refl
]

-- ---- one call more

Replays-push : (es : List Entry) (call : TableCall) (reply : TableReply) (from to : Table) → Replays es from to → reply ≡ reply_to call to →
    Replays (es ++ entry_of call reply ∷ []) from (table_after call to)
Replays-push [] call reply from to h answered =
    (ap (λ r. entry_of call r) (answered ∙ ap (λ t. reply_to call t) (sym h)), ap (λ t. table_after call t) h)
Replays-push (e ∷ es) call reply from to h answered = (h.0, Replays-push es call reply (table_after e.call from) to h.1 answered)

-- from no connection on
pub replayed-push : (es : List Entry) (call : TableCall) (reply : TableReply) (t new : Table) → Replays es (empty_table t.settings) t → reply ≡ reply_to call t →
    new ≡ table_after call t → Replays (es ++ entry_of call reply ∷ []) (empty_table new.settings) new
replayed-push es call reply t new h answered is =
    subst (λ u. Replays (es ++ entry_of call reply ∷ []) (empty_table u.settings) u) (sym is)
    (subst (λ s. Replays (es ++ entry_of call reply ∷ []) (empty_table s) (table_after call t)) (sym (settings-after call t))
    (Replays-push es call reply (empty_table t.settings) t h answered))

-- ---- how many calls there are of each governor

pub outs-push : (es : List Entry) (call : OutCall) (reply : TableReply) →
    (count_of Out (es ++ entry_of (calls.Out call) reply ∷ []) ≡ count_of Out es + 1) × (count_of In (es ++ entry_of (calls.Out call) reply ∷ []) ≡ count_of In es)
outs-push es call reply =
    let e = entry_of (calls.Out call) reply in
    (counted Out es e refl, ap length (same_calls In Out es e refl refl))

pub ins-push : (es : List Entry) (call : InCall) (reply : TableReply) →
    (count_of Out (es ++ entry_of (calls.In call) reply ∷ []) ≡ count_of Out es) × (count_of In (es ++ entry_of (calls.In call) reply ∷ []) ≡ count_of In es + 1)
ins-push es call reply =
    let e = entry_of (calls.In call) reply in
    (ap length (same_calls Out In es e refl refl), counted In es e refl)
