-- The moments of a connection, by kind, are those of its deadlines.
use Rattle.std.proofs.Common.{◌≡◌, List, [], ◌++◌, map, Option, Some, None, refl, sym, ap, subst, ◌∙◌}
use Rattle.std.specs.List.{cons_option}
use Rattle.connections.specs.Owed.{owed_by}
use Rattle.connections.specs.Timed.{handshake_end, time_wait_end, grace_end, reply_end}
use Rattle.connections.specs.declared.reply.Reply.{Reply}
use Rattle.machine.specs.Deadlines.{phase_deadlines, grace_deadlines, reply_deadline}
use Rattle.machine.specs.Machine.{Owed}
use Rattle.net_base.specs.declared.connection.Cid.{Cid}
use Rattle.net_base.specs.declared.connection.Grace.{Grace}
use Rattle.net_base.specs.declared.connection.Grace.TheVariants.{Off, ForRemote, ForLocal}
use Rattle.net_base.specs.declared.connection.Phase.{Phase}
use Rattle.net_base.specs.declared.connection.Phase.TheVariants.{Dialing, Greeting, Negotiated, Closing}
use Rattle.net_base.specs.declared.timer.Deadline.{Deadline}
use Rattle.net_base.specs.declared.timer.Kind.TheVariants.{Handshake, Grace as GraceKind, TimeWait, Reply2, Reply8, Reply10}
use Rattle.timer_queue.specs.Rows.{timer_at, timers_of}
use Rattle.timer_queue.specs.Timers.{timer, HaveSame}
use Rattle.timer_queue.specs.declared.moments.Moments.{Moments}
use Rattle.timer_queue.proofs.PutTimers.{swapped}

abbrev pub moments_by : Phase → Grace → Option Reply → Option Reply → Option Reply → Moments
moments_by phase grace a b c = record {
  handshake = handshake_end phase;
  grace = grace_end grace;
  time_wait = time_wait_end phase;
  reply2 = reply_end a;
  reply8 = reply_end b;
  reply10 = reply_end c;
}

abbrev replies_in : Cid → Option Reply → Option Reply → Option Reply → List Deadline
replies_in cid a b c =
    cons_option (timer_at cid Reply2 (reply_end a)) (cons_option (timer_at cid Reply8 (reply_end b)) (cons_option (timer_at cid Reply10 (reply_end c)) []))

replies_are : (cid : Cid) (a b c : Option Reply) → replies_in cid a b c ≡ map (reply_deadline cid) (owed_by a b c)
replies_are cid None None None = refl
replies_are cid None None (Some z) = refl
replies_are cid None (Some y) None = refl
replies_are cid None (Some y) (Some z) = refl
replies_are cid (Some x) None None = refl
replies_are cid (Some x) None (Some z) = refl
replies_are cid (Some x) (Some y) None = refl
replies_are cid (Some x) (Some y) (Some z) = refl

-- those of its phase and of its grace, in front of others
in_front : (cid : Cid) (phase : Phase) (grace : Grace) (rest : List Deadline) → HaveSame
    (cons_option (timer_at cid Handshake (handshake_end phase)) (cons_option (timer_at cid GraceKind (grace_end grace))
    (cons_option (timer_at cid TimeWait (time_wait_end phase)) rest)))
    (phase_deadlines cid phase ++ grace_deadlines cid grace ++ rest)
in_front cid Dialing Off rest = λ d. refl
in_front cid Dialing (ForRemote g) rest = λ d. refl
in_front cid Dialing (ForLocal g) rest = λ d. refl
in_front cid (Greeting p) Off rest = λ d. refl
in_front cid (Greeting p) (ForRemote g) rest = λ d. refl
in_front cid (Greeting p) (ForLocal g) rest = λ d. refl
in_front cid Negotiated Off rest = λ d. refl
in_front cid Negotiated (ForRemote g) rest = λ d. refl
in_front cid Negotiated (ForLocal g) rest = λ d. refl
in_front cid (Closing p) Off rest = λ d. refl
in_front cid (Closing p) (ForRemote g) rest = swapped (Some (timer cid GraceKind g)) (Some (timer cid TimeWait p)) rest
in_front cid (Closing p) (ForLocal g) rest = swapped (Some (timer cid GraceKind g)) (Some (timer cid TimeWait p)) rest

pub moments_are : (cid : Cid) (phase : Phase) (grace : Grace) (a b c : Option Reply) (owed : List Owed) → owed ≡ owed_by a b c →
    HaveSame (timers_of cid (moments_by phase grace a b c)) (phase_deadlines cid phase ++ grace_deadlines cid grace ++ map (reply_deadline cid) owed)
moments_are cid phase grace a b c owed is =
    subst (λ rs. HaveSame (timers_of cid (moments_by phase grace a b c)) (phase_deadlines cid phase ++ grace_deadlines cid grace ++ rs))
    (replies_are cid a b c ∙ ap (map (reply_deadline cid)) (sym is)) (in_front cid phase grace (replies_in cid a b c))
