-- Each event of the whole machine.
use Rattle.std.proofs.Common.{ℕ, zero, suc, ◌+◌, ◌≤◌, ◌≡◌, true, false, cond, nat_le, if◌then◌else◌, List, length, All, Option, Some, None, refl, sym, ap, ◌∙◌, subst, arith, leb-false}
use Rattle.laws.proofs.Words.{cond_both, both_ways, and_parts, false≢true}
use Rattle.laws.specs.Words.{same_address, Overwritten, Fault, HandshakeWait, ReplyWait, Addr, Event, Now, Govern, Accepted, Dialed, Bytes, Closed, Aims, Locals, Roots, BigAims, Bigs, Group, RootAnswer, Found, Failed, Peer, Deadline, Kind, Handshake, TimeWait, expired, is_live, is_live_at, cleaned, members_of, awaits, publics_of, found, failed, Machine, Entry, counted_in, live_entry_at, Effect, shared, nothing_more, as_move, for_each, on_entry, peer_at, peer_is_ordinary, peer_comes, with_entry, without_entry, entry_turns, closing_entry, ending, deadlines, due, fires_as, fires, fires_some, fire_due, fire_all, clock_shows, admitted, peer_connects, comes_ordinary, locals_are, is_wanted_big, comes_big, roots_say, step}
use Rattle.net_base.specs.declared.timer.Kind.TheVariants.{Grace as GraceKind}
use Rattle.laws.specs.AtMoves.{IsLawful}
use Rattle.laws.specs.Steady.{IsFormed, IsSteady, TiedBy, IsTied, IsOrdered}
use Rattle.laws.specs.Laws.{is_local, LocalsAreOrdinary}
use Rattle.laws.proofs.Addresses.{same_address-true}
use Rattle.laws.proofs.Entries.{TurnsInto}
use Rattle.laws.proofs.Firing.{Due, due_of}
use Rattle.laws.proofs.Ties.{turned-ties, gone-ties, gone_here}
use Rattle.laws.proofs.Governing.{govern-trimmed}
use Rattle.laws.proofs.GroupsApart.{cleaned-apart}
use Rattle.laws.proofs.Counts.{counted_of, late_in, counted-expired, counted-closing, late-expired, late-closing}
use Rattle.laws.proofs.Effects.{one_if-not_counted}
use Rattle.laws.proofs.Events.{at_moment, at_moment-orderly, ahead-none_late, none_late-ahead, clock_shows-sound}
use Rattle.laws.proofs.Promotions.{admitted-keeps}
use Rattle.laws.proofs.Keeping.{Keeps, keeps_nothing, keeps_then, moves-keeps, turns-moves, goes-moves, elsewhere-keeps, changes-keeps, peer_comes-keeps, for_each-keeps, for_each_that-keeps}
use Rattle.laws.proofs.Lists.{StandsAt, find_some}
use Rattle.laws.proofs.Ordinary.{members-classes}
use Rattle.laws.proofs.Owing.{nothing-owing, alike-owing}
use Rattle.laws.proofs.OwnAddress.{IsOther, members-other, publics-other, wanted-other, wanted-not_local}
use Rattle.laws.proofs.Settings.{timewait-positive}
use Rattle.laws.proofs.Shapes.{expired-shaped, closing-shaped}
use Rattle.laws.proofs.Streams.{bytes_come_in-trimmed}
use Rattle.laws.proofs.Trims.{Trimmed}
use Rattle.laws.proofs.WholeMoves.{ending-keeps, overwritten-keeps, vanishes-keeps, connects-keeps, stands-shaped, alike-keeps, stands-owing}
use Rattle.laws.proofs.Cases.{by_bool, by_option}
use Rattle.laws.proofs.Connects.{connects-cases, dialed-cases, closes-cases}

-- ---- what is set and provided

comes_ordinary-keeps : (addr : Addr) (m : Machine) → IsOrdered m → IsOther m.settings addr → Keeps 0 m (comes_ordinary addr m).machine
comes_ordinary-keeps addr m h other = peer_comes-keeps false addr m h other (λ local. refl)

ordinary-keeps : (addr : Addr) (m : Machine) → IsOrdered m → Keeps 0 m (peer_is_ordinary addr m).machine
ordinary-keeps addr m h = changes-keeps addr (λ p. record p { big = false }) m (λ p. refl) (λ p ordinary. refl) (λ p tie. same_peer p (live_entry_at addr m) tie) h
  where
    same_peer : (p : Peer) (o : Option Entry) → TiedBy m.now (Some p) o → TiedBy m.now (Some (record p { big = false })) o
    same_peer p None tie = tie
    same_peer p (Some e) tie = assumption

locals-keeps : (groups : List Group) (m : Machine) → IsOrdered m → Keeps 0 m (locals_are groups m).machine
locals-keeps groups m h =
    let kept : List Group = cleaned m.settings.own groups in
    let n : Machine = record m { groups = kept } in
    let o : Machine = (for_each peer_is_ordinary (members_of kept) n).machine in
    let p : Machine = (for_each comes_ordinary (members_of kept) o).machine in
    let first : Keeps 0 n o =
    for_each-keeps peer_is_ordinary ordinary-keeps (members_of kept) n (assumption (cleaned-apart m.settings.own groups, h)) in
    let second : Keeps 0 o p = for_each_that-keeps IsOther comes_ordinary comes_ordinary-keeps (members_of kept) o first.ordered
    (subst (λ s. All (IsOther s) (members_of kept)) (sym first.settings) (members-other m.settings groups)) in
    let both : Keeps 0 n p = keeps_then 0 0 n o p first second in
    let classes : LocalsAreOrdinary m → LocalsAreOrdinary p = λ before. second.classes (members-classes n) in
    assumption (classes, both)

comes_big-keeps : (addr : Addr) (m : Machine) → IsOrdered m → Keeps 0 m (comes_big addr m).machine
comes_big-keeps addr m h = by_bool (is_wanted_big addr m)
    (λ b. Keeps 0 m (if b then as_move (shared addr) m (peer_comes true addr m) else nothing_more m).machine)
    (λ wanted. peer_comes-keeps true addr m h (wanted-other addr m wanted)
    (λ local. absurd (both_ways (is_local m.groups addr) (wanted-not_local addr m wanted) local)))
    (λ unwanted. keeps_nothing m h)

roots_say-keeps : (answer : RootAnswer) (m : Machine) → IsOrdered m → Keeps 0 m (roots_say answer m).machine
roots_say-keeps (Found ttl addrs) m h =
    let publics : List Addr = publics_of m.settings.own m.targets.root addrs in
    let n : Machine = record m { roots = found m.now ttl publics m.roots } in
    let first : Keeps 0 m n = elsewhere-keeps m.targets m.big_targets (found m.now ttl publics m.roots) m h (λ job never. absurd cc) in
    keeps_then 0 0 m n (for_each comes_ordinary publics n).machine first
    (for_each_that-keeps IsOther comes_ordinary comes_ordinary-keeps publics n first.ordered (publics-other m.settings m.targets.root addrs))
roots_say-keeps Failed m h = elsewhere-keeps m.targets m.big_targets (failed m.now m.settings.backoff m.roots) m h (λ job never. absurd cc)

-- ---- the clock

expires-keeps : (m : Machine) (e : Entry) (k : ℕ) → IsOrdered m → StandsAt m.connections k e → e.facts.local ≡ true →
    Keeps 0 m (entry_turns e (record e { facts = expired e.facts }) m).machine
expires-keeps m e k h s local =
    let new : Entry = record e { facts = expired e.facts } in
    let same : counted_of new ≡ counted_of e = ap (λ b. cond b 1 0) (counted-expired e.facts local) in
    let late = late-expired m.now e in
    alike-keeps 0 m e new k h s (record { same_id = refl; same_addr = refl; live = λ l. l }) (record { local = refl; pending = refl; live = refl; asked = λ asked. asked })
    (expired-shaped e.facts (stands-shaped m e k h s) local) (alike-owing e new refl refl refl (stands-owing m e k h s)) (omega arith) (omega (arith, late))

closes_entry-keeps : (m : Machine) (e : Entry) (k : ℕ) → IsOrdered m → StandsAt m.connections k e → e.facts.local ≡ false →
    Keeps 0 m (entry_turns e (closing_entry m e) m).machine
closes_entry-keeps m e k h s idle =
    let until : ℕ = m.now + m.settings.timewait in
    let none : counted_of (closing_entry m e) ≡ 0 = one_if-not_counted (closing_entry m e).facts (counted-closing until e.facts) in
    let late = late-closing m e (timewait-positive m.settings h.orderly.settings) in
    let turns : TurnsInto e (closing_entry m e) = record { same_id = refl; same_addr = refl; live = λ l. absurd (false≢true l) } in
    moves-keeps 0 m (with_entry (closing_entry m e) m)
    (turns-moves 0 m e (closing_entry m e) k h s turns (closing-shaped until e.facts)
    (nothing-owing (closing_entry m e) ((stands-owing m e k h s).used idle)) (omega arith) (omega (arith, late)))
    (turned-ties m e (closing_entry m e) k h.orderly s turns (λ live o is tie. by_option o (λ o. TiedBy m.now o (Some e) → TiedBy m.now o None)
    (λ is tie. tt) (λ p is tie. tie.established ∙ idle) tie))

fires_as-keeps : (kind : Kind) (m : Machine) (e : Entry) (k : ℕ) → IsOrdered m → StandsAt m.connections k e → (kind ≡ TimeWait → is_live e.facts ≡ false) →
    Keeps 0 m (fires_as kind e m).machine
fires_as-keeps Handshake m e k h s waits = ending-keeps (Fault HandshakeWait) refl m e k h s
fires_as-keeps GraceKind m e k h s waits = cond_both e.facts.local _ _ (λ (effect : Effect). Keeps 0 m effect.machine) (expires-keeps m e k h s) (closes_entry-keeps m e k h s)
fires_as-keeps TimeWait m e k h s waits = search (arith, moves-keeps, goes-moves, gone-ties, both_ways)
fires_as-keeps other m e k h s waits = ending-keeps (Fault ReplyWait) refl m e k h s

pub fires-keeps : (d : Deadline) (m : Machine) → IsOrdered m → due m ≡ Some d → Keeps 0 m (fires d m).machine
fires-keeps d m h is =
    let next : Due m d = due_of m d h.orderly is in
    subst (λ o. Keeps 0 m (on_entry o (fires_as d.kind) m).machine) (sym next.found)
    (fires_as-keeps d.kind m next.owner next.place h next.stands next.waits)

fire_due-keeps : (n : ℕ) (m : Machine) → IsOrdered m → Keeps 0 m (fire_due n m).machine
unfolding fire_due
fire_due-keeps zero m h = keeps_nothing m h
fire_due-keeps (suc n) m h = by_option (due m)
    (λ o. ((w : Machine) → IsOrdered w → Keeps 0 w (fire_due n w).machine) → Keeps 0 m (fires_some o (fire_due n) m).machine)
    (λ is later. keeps_nothing m h)
    (λ d is later.
    let first : Keeps 0 m (fires d m).machine = fires-keeps d m h is in
    keeps_then 0 0 m (fires d m).machine (fire_due n (fires d m).machine).machine first (later (fires d m).machine first.ordered)) (fire_due-keeps n)

pub formed_at_moment : (t : ℕ) (m : Machine) → IsFormed m → IsFormed (at_moment t m)
formed_at_moment t m h = assumption

later-tied : (now t : ℕ) (o : Option Peer) (e : Option Entry) → now ≤ t → TiedBy now o e → TiedBy t o e
later-tied now t (Some p) (Some e) past tie = search (arith, tie.in_use, tie.on_its_way)
later-tied now t o e past tie = tie

-- ---- each event

-- what an event does to a steady record
pub record StaysSteady (before after : Machine) : Type 0 where
  pub steady : IsSteady after
  pub settings : after.settings ≡ before.settings

pub ordered_of : (m : Machine) → IsSteady m → IsOrdered m
ordered_of m h = record { orderly = h.sound.orderly; formed = h.formed }

steady_after : {m n : Machine} → IsSteady m → IsOrdered n → n.settings ≡ m.settings → counted_in n ≤ m.settings.hard → late_in n ≤ late_in m → IsTied n →
    LocalsAreOrdinary n → StaysSteady m n
steady_after {m} {n} h ordered settings counted late tied locals = search (arith, ahead-none_late, none_late-ahead)

trimmed-steady : {m : Machine} {effect : Effect} → IsSteady m → Trimmed IsLawful m effect → StaysSteady m effect.machine
trimmed-steady h t = steady_after h t.ordered t.settings t.counted t.late (t.ties h.tied) (t.classes h.locals)

raised-steady : {raised : ℕ} {m n : Machine} → counted_in m + raised ≤ m.settings.hard → IsSteady m → Keeps raised m n → StaysSteady m n
raised-steady room h k = steady_after h k.ordered k.settings (omega (arith, k.counted, room)) k.late (k.ties h.tied) (k.classes h.locals)

kept-steady : {m n : Machine} → IsSteady m → Keeps 0 m n → StaysSteady m n
kept-steady h = raised-steady (let few = h.sound.counted in omega (arith, few)) h

clock-steady : (t : ℕ) (m : Machine) → IsSteady m → StaysSteady m (clock_shows t m).machine
clock-steady t m h =
    let n : Machine = at_moment t m in
    let sound = clock_shows-sound t m h.sound in
    let whole : IsFormed (clock_shows t m).machine × IsTied (clock_shows t m).machine × LocalsAreOrdinary (clock_shows t m).machine = cond_both (nat_le t m.now) (nothing_more m) (fire_all n)
    (λ effect. IsFormed effect.machine × IsTied effect.machine × LocalsAreOrdinary effect.machine) (λ past. (h.formed, h.tied, h.locals))
    (λ later.
    let fired = fire_due-keeps (length (deadlines n)) n (record { orderly = at_moment-orderly t m h.sound.orderly; formed = formed_at_moment t m h.formed }) in
    let above = leb-false t m.now later in
    (fired.ordered.formed, fired.ties (λ b. later-tied m.now t (peer_at b m) (live_entry_at b m) (omega (arith, above)) (h.tied b)), fired.classes h.locals)) in
    record { steady = record { sound = sound.sound; formed = whole.0; tied = whole.1; locals = whole.2 }; settings = sound.settings }

connects-steady : (addr : Addr) (m : Machine) → IsSteady m → StaysSteady m (peer_connects addr m).machine
connects-steady addr m h = connects-cases addr m (λ effect. StaysSteady m effect.machine) (λ cause. kept-steady h (keeps_nothing m (ordered_of m h)))
    (λ room none. raised-steady (fits room.below) h (admitted-keeps addr m (ordered_of m h) none room.other))
    (λ room e is pending.
    let at = find_some (λ y. is_live_at addr y.facts) m.connections e is in
    let parts = and_parts (same_address e.facts.addr addr) (is_live e.facts) at.passes in
    let n : Machine = (ending Overwritten e m).machine in
    let ends : Keeps 0 m n = overwritten-keeps m e at.place (ordered_of m h) at.stands pending in
    let none : live_entry_at addr n ≡ None =
    subst (λ a. live_entry_at a n ≡ None) (same_address-true e.facts.addr addr parts.0) (gone_here m e at.place h.sound.orderly at.stands parts.1) in
    raised-steady (fits room.below) h (keeps_then 0 1 m n (admitted addr n).machine ends (admitted-keeps addr n ends.ordered none room.other)))
  where
    fits : nat_le m.settings.hard (counted_in m) ≡ false → counted_in m + 1 ≤ m.settings.hard
    fits below = let above = leb-false m.settings.hard (counted_in m) below in omega (arith, above)

pub step-steady : (m : Machine) (event : Event) → IsSteady m → StaysSteady m (step m event).machine
step-steady m (Now t) h = clock-steady t m h
step-steady m (Govern word) h = trimmed-steady h (govern-trimmed word m (ordered_of m h) h.sound.counted)
step-steady m (Accepted addr) h = connects-steady addr m h
step-steady m (Dialed cid opened) h = kept-steady h (dialed-cases cid opened m (λ effect. Keeps 0 m effect.machine)
    (keeps_nothing m (ordered_of m h)) (λ e k s dials. connects-keeps m e k (ordered_of m h) s dials) (λ e k s dials. vanishes-keeps m e k (ordered_of m h) s))
step-steady m (Bytes cid bytes) h = trimmed-steady h (bytes_come_in-trimmed cid bytes m (ordered_of m h) h.sound.counted)
step-steady m (Closed cid) h = kept-steady h (closes-cases cid m (λ effect. Keeps 0 m effect.machine) (keeps_nothing m (ordered_of m h))
    (λ e k s own. vanishes-keeps m e k (ordered_of m h) s))
step-steady m (Aims targets) h = kept-steady h (elsewhere-keeps targets m.big_targets m.roots m (ordered_of m h) h.formed.pending_job)
step-steady m (Locals groups) h = kept-steady h (locals-keeps groups m (ordered_of m h))
step-steady m (Roots job answer) h = kept-steady h (cond_both (awaits job.0 m.roots) _ _
    (λ (effect : Effect). Keeps 0 m effect.machine) (λ pending. roots_say-keeps answer m (ordered_of m h)) (λ other. keeps_nothing m (ordered_of m h)))
step-steady m (BigAims targets) h = kept-steady h (elsewhere-keeps m.targets targets m.roots m (ordered_of m h) h.formed.pending_job)
step-steady m (Bigs addrs) h = kept-steady h (for_each-keeps comes_big comes_big-keeps addrs m (ordered_of m h))
