-- A line that is read as an event is printed of that event.
use Rattle.std.proofs.Common.{◌≡◌, ℕ, ◌+◌, ◌^◌, ◌<◌, ◌≤◌, Bool, true, false, ◌&&◌, cond, eqb, List, [], ◌∷◌, ◌++◌, length, map, Option, Some, None, decimal, refl, sym, ap, subst, ◌∙◌, arith, lit<}
use Rattle.std.specs.Prelude.{codes, bytes_eq, Result, Ok, Err, IfOk}
use Rattle.std.specs.List.{AllByRecursion, join_with_byte}
use Rattle.std.proofs.lemmas.Bool.{cond_both, and_parts, eqb-true}
use Rattle.std.proofs.lemmas.List.{append-nil}
use Rattle.std.proofs.lemmas.List.Elements.{All-from_recursion}
use Rattle.std.proofs.lemmas.List.Splits.{join_with_byte-slice_split}
use Rattle.hex.specs.Hex.{encode_lower}
use Rattle.net_base.specs.Bounds.{targets_fault, big_targets_fault}
use Rattle.net_base.specs.Limits.{IsWithinLimits, HasValencies}
use Rattle.net_base.specs.Number.{number_up_to}
use Rattle.net_base.specs.declared.address.Addr.{Addr}
use Rattle.net_base.specs.declared.event.Event.{Event}
use Rattle.net_base.specs.declared.event.Event.TheVariants.{Now, Govern, Accepted, Dialed, Bytes, Closed, Aims, Locals, Roots, BigAims, Bigs}
use Rattle.net_base.specs.declared.event.Group.{Group}
use Rattle.net_base.specs.declared.event.RootAnswer.TheVariants.{Found, Failed}
use Rattle.net_base.specs.declared.settings.Field.{Field}
use Rattle.net_base.specs.declared.targets.BigTargets.{BigTargets}
use Rattle.net_base.specs.declared.targets.Targets.{Targets}
use Rattle.trace_text.specs.declared.line.Line.{Line}
use Rattle.trace_text.specs.declared.line.Line.TheVariants.{Head, Happen, Acted, End}
use Rattle.trace_text.specs.declared.line.LineRefusal.{LineRefusal}
use Rattle.trace_text.specs.declared.line.LineRefusal.TheVariants.{BadWord, BadNumber}
use Rattle.trace_text.specs.Addresses.{address_of, printed_address}
use Rattle.trace_text.specs.EventTexts.{IsEventIn, IsKnownIn, AreKnownIn, event_of, event_words, printed_event, outcome_word}
use Rattle.trace_text.specs.Events.{id_most, word_most, interval_most, in_bounds, outcome_of, piece_of, now_line, govern_line, accepted_line, dialed_line, bytes_line, closed_line, targets_line, big_targets_line, all_groups, locals_line, roots_line, roots_found, roots_failed, bigs_line, big_line, provided_line, event_line, next_addresses}
use Rattle.trace_text.specs.Reading.{◌>>=◌, first_word, from_least, next_word, next_read, next_number, next_address, no_more, no_words}
use Rattle.trace_text.specs.Words.{Unread, pieces_of, words_of}
use Rattle.trace_text.proofs.Binds.{bound, ok_parts}
use Rattle.trace_text.proofs.GroupLaws.{addresses_only, groups_only}
use Rattle.trace_text.proofs.HexPieces.{IsPieceOfBytes}
use Rattle.trace_text.proofs.SettingLaws.{in_range}
use Rattle.trace_text.proofs.Spelled.{IsBetween, Always, same_bytes, numbers, addresses, outcomes, byte_pieces, next_only}

-- ---- the end of a line

pub ended_at : (place : ℕ) (words : List (List ℕ)) (end : Unit {0}) → no_words place words ≡ Ok end → words ≡ []
ended_at place [] end h = refl
ended_at place (word ∷ words) end h = absurd cc

happened : (found event : Event) → ◌≡◌ {A = Result Line LineRefusal} (Ok (Happen found)) (Ok (Happen event)) → found ≡ event
happened found event h = cc

-- ---- the next word

a_number : (least most : ℕ) → most < 2 ^ 64 → (unread rest : Unread) (n : ℕ) → next_number least most unread ≡ Ok (n, rest) → (unread.words ≡ decimal n ∷ rest.words) × IsBetween least most n
a_number least most fits unread rest n h =
    let r = next_only (λ word. from_least least (number_up_to most word)) BadNumber decimal (IsBetween least most) (numbers least most fits) unread rest n h in
    (r.words, r.fits)

an_id : (unread rest : Unread) (n : ℕ) → next_number 0 id_most unread ≡ Ok (n, rest) → (unread.words ≡ decimal n ∷ rest.words) × (n ≤ 2 ^ 48)
an_id unread rest n h = let r = a_number 0 id_most (lit< tt) unread rest n h in (r.0, r.1.1)

an_outcome : (unread rest : Unread) (b : Bool) → next_read outcome_of BadWord unread ≡ Ok (b, rest) → unread.words ≡ outcome_word b ∷ rest.words
an_outcome unread rest b h = (next_only outcome_of BadWord outcome_word Always outcomes unread rest b h).words

abbrev pub after_first : List ℕ → List (List ℕ) → List (List ℕ)
after_first word words = word ∷ words

module _ (version : ℕ) where
  pub record IsTold (name : List ℕ) (words : List (List ℕ)) (event : Event) : Type 0 where
    pub spelled : name ∷ words ≡ event_words event
    pub limits : IsWithinLimits event
    pub known : IsEventIn version event

  -- nothing follows an event's last word
  closed_by : (name : List ℕ) (words : List (List ℕ)) (rest : Unread) (found event : Event) →
      (no_more rest >>= λ end. Ok (Happen found)) ≡ Ok (Happen event) → (rest.words ≡ [] → IsTold name words found) → IsTold name words event
  closed_by name words rest found event h told =
      let e = bound (no_more rest) (λ end. Ok (Happen found)) (Happen event) h in
      subst (IsTold name words) (happened found event e.after) (told (ended_at rest.place rest.words e.value e.before))

  now_told : (unread : Unread) (event : Event) → now_line unread ≡ Ok (Happen event) → IsTold (codes "now") unread.words event
  now_told unread event h =
      let t = bound (next_number 0 id_most unread) (λ r. no_more r.1 >>= λ end. Ok (Happen (Now r.0))) (Happen event) h in
      let n = an_id unread t.value.1 t.value.0 t.before in
      closed_by (codes "now") unread.words t.value.1 (Now t.value.0) event t.after (λ e. record {
        spelled = ap (after_first (codes "now")) (n.0 ∙ ap (after_first (decimal t.value.0)) e);
        limits = n.1;
        known = tt;
      })

  govern_told : (unread : Unread) (event : Event) → govern_line unread ≡ Ok (Happen event) → IsTold (codes "govern") unread.words event
  govern_told unread event h =
      let t = bound (next_number 0 word_most unread) (λ r. no_more r.1 >>= λ end. Ok (Happen (Govern r.0))) (Happen event) h in
      let n = a_number 0 word_most (lit< tt) unread t.value.1 t.value.0 t.before in
      closed_by (codes "govern") unread.words t.value.1 (Govern t.value.0) event t.after (λ e. record {
        spelled = ap (after_first (codes "govern")) (n.0 ∙ ap (after_first (decimal t.value.0)) e);
        limits = tt;
        known = omega (arith, n.1.1);
      })

  accepted_told : (unread : Unread) (event : Event) → accepted_line version unread ≡ Ok (Happen event) → IsTold (codes "accepted") unread.words event
  accepted_told unread event h =
      let t = bound (next_address version unread) (λ r. no_more r.1 >>= λ end. Ok (Happen (Accepted r.0))) (Happen event) h in
      let a = next_only (address_of version) BadWord printed_address (IsKnownIn version) (addresses version) unread t.value.1 t.value.0 t.before in
      closed_by (codes "accepted") unread.words t.value.1 (Accepted t.value.0) event t.after (λ e. record {
        spelled = ap (after_first (codes "accepted")) (a.words ∙ ap (after_first (printed_address t.value.0)) e);
        limits = tt;
        known = a.fits;
      })

  dialed_told : (unread : Unread) (event : Event) → dialed_line unread ≡ Ok (Happen event) → IsTold (codes "dialed") unread.words event
  dialed_told unread event h =
      let t = bound (next_number 0 id_most unread) (λ r. next_read outcome_of BadWord r.1 >>= λ s. no_more s.1 >>= λ end. Ok (Happen (Dialed (record { 0 = r.0 }) s.0))) (Happen event) h in
      let o = bound (next_read outcome_of BadWord t.value.1) (λ s. no_more s.1 >>= λ end. Ok (Happen (Dialed (record { 0 = t.value.0 }) s.0))) (Happen event) t.after in
      let n = an_id unread t.value.1 t.value.0 t.before in
      let w = an_outcome t.value.1 o.value.1 o.value.0 o.before in
      closed_by (codes "dialed") unread.words o.value.1 (Dialed (record { 0 = t.value.0 }) o.value.0) event o.after (λ e. record {
        spelled = ap (after_first (codes "dialed")) (n.0 ∙ ap (after_first (decimal t.value.0)) (w ∙ ap (after_first (outcome_word o.value.0)) e));
        limits = n.1;
        known = tt;
      })

  bytes_told : (unread : Unread) (event : Event) → bytes_line unread ≡ Ok (Happen event) → IsTold (codes "bytes") unread.words event
  bytes_told unread event h =
      let t = bound (next_number 0 id_most unread) (λ r. next_read piece_of BadWord r.1 >>= λ s. no_more s.1 >>= λ end. Ok (Happen (Bytes (record { 0 = r.0 }) s.0))) (Happen event) h in
      let o = bound (next_read piece_of BadWord t.value.1) (λ s. no_more s.1 >>= λ end. Ok (Happen (Bytes (record { 0 = t.value.0 }) s.0))) (Happen event) t.after in
      let n = an_id unread t.value.1 t.value.0 t.before in
      let w = next_only piece_of BadWord encode_lower IsPieceOfBytes byte_pieces t.value.1 o.value.1 o.value.0 o.before in
      closed_by (codes "bytes") unread.words o.value.1 (Bytes (record { 0 = t.value.0 }) o.value.0) event o.after (λ e. record {
        spelled = ap (after_first (codes "bytes")) (n.0 ∙ ap (after_first (decimal t.value.0)) (w.words ∙ ap (after_first (encode_lower o.value.0)) e));
        limits = (n.1, w.fits.piece);
        known = w.fits.below;
      })

  closed_told : (unread : Unread) (event : Event) → closed_line unread ≡ Ok (Happen event) → IsTold (codes "closed") unread.words event
  closed_told unread event h =
      let t = bound (next_number 0 id_most unread) (λ r. no_more r.1 >>= λ end. Ok (Happen (Closed (record { 0 = r.0 })))) (Happen event) h in
      let n = an_id unread t.value.1 t.value.0 t.before in
      closed_by (codes "closed") unread.words t.value.1 (Closed (record { 0 = t.value.0 })) event t.after (λ e. record {
        spelled = ap (after_first (codes "closed")) (n.0 ∙ ap (after_first (decimal t.value.0)) e);
        limits = n.1;
        known = tt;
      })

  -- ---- targets

  no_fault : (o : Option Field) (tested : Unit {0}) → in_bounds o ≡ Ok tested → o ≡ None
  no_fault None tested h = refl
  no_fault (Some field) tested h = absurd cc

  -- the bounds hold, and nothing follows
  tested_by : (name : List ℕ) (words : List (List ℕ)) (fault : Option Field) (rest : Unread) (found event : Event) →
      (in_bounds fault >>= λ tested. no_more rest >>= λ end. Ok (Happen found)) ≡ Ok (Happen event) →
      (fault ≡ None → rest.words ≡ [] → IsTold name words found) → IsTold name words event
  tested_by name words fault rest found event h told =
      let b = bound (in_bounds fault) (λ tested. no_more rest >>= λ end. Ok (Happen found)) (Happen event) h in
      closed_by name words rest found event b.after (told (no_fault fault b.value b.before))

  abbrev behind_active : ℕ → ℕ → ℕ → ℕ × Unread → Result Line LineRefusal
  behind_active root known established r =
      in_bounds (targets_fault (record { root = root; known = known; established = established; active = r.0 }))
      >>= λ tested. no_more r.1 >>= λ end. Ok (Happen (Aims (record { root = root; known = known; established = established; active = r.0 })))

  abbrev behind_established : ℕ → ℕ → ℕ × Unread → Result Line LineRefusal
  behind_established root known r = next_number 0 id_most r.1 >>= behind_active root known r.0

  abbrev behind_known : ℕ → ℕ × Unread → Result Line LineRefusal
  behind_known root r = next_number 0 id_most r.1 >>= behind_established root r.0

  abbrev behind_root : ℕ × Unread → Result Line LineRefusal
  behind_root r = next_number 0 id_most r.1 >>= behind_known r.0

  targets_told : (unread : Unread) (event : Event) → targets_line unread ≡ Ok (Happen event) → IsTold (codes "targets") unread.words event
  targets_told unread event h =
      let root = bound (next_number 0 id_most unread) behind_root (Happen event) h in
      let known = bound (next_number 0 id_most root.value.1) (behind_known root.value.0) (Happen event) root.after in
      let established = bound (next_number 0 id_most known.value.1) (behind_established root.value.0 known.value.0) (Happen event) known.after in
      let active = bound (next_number 0 id_most established.value.1) (behind_active root.value.0 known.value.0 established.value.0) (Happen event) established.after in
      let r = an_id unread root.value.1 root.value.0 root.before in
      let k = an_id root.value.1 known.value.1 known.value.0 known.before in
      let e = an_id known.value.1 established.value.1 established.value.0 established.before in
      let a = an_id established.value.1 active.value.1 active.value.0 active.before in
      let found : Targets = record { root = root.value.0; known = known.value.0; established = established.value.0; active = active.value.0 } in
      tested_by (codes "targets") unread.words (targets_fault found) active.value.1 (Aims found) event active.after (λ sound end. record {
        spelled = ap (after_first (codes "targets")) (
            r.0 ∙ ap (after_first (decimal root.value.0)) (
            k.0 ∙ ap (after_first (decimal known.value.0)) (
            e.0 ∙ ap (after_first (decimal established.value.0)) (
            a.0 ∙ ap (after_first (decimal active.value.0)) end))));
        limits = sound;
        known = tt;
      })

  abbrev behind_big_active : ℕ → ℕ → ℕ × Unread → Result Line LineRefusal
  behind_big_active known established r =
      in_bounds (big_targets_fault (record { known = known; established = established; active = r.0 }))
      >>= λ tested. no_more r.1 >>= λ end. Ok (Happen (BigAims (record { known = known; established = established; active = r.0 })))

  abbrev behind_big_established : ℕ → ℕ × Unread → Result Line LineRefusal
  behind_big_established known r = next_number 0 id_most r.1 >>= behind_big_active known r.0

  abbrev behind_big_known : ℕ × Unread → Result Line LineRefusal
  behind_big_known r = next_number 0 id_most r.1 >>= behind_big_established r.0

  big_targets_told : version ≡ 2 → (unread : Unread) (event : Event) → big_targets_line unread ≡ Ok (Happen event) → IsTold (codes "bigtargets") unread.words event
  big_targets_told two unread event h =
      let known = bound (next_number 0 id_most unread) behind_big_known (Happen event) h in
      let established = bound (next_number 0 id_most known.value.1) (behind_big_established known.value.0) (Happen event) known.after in
      let active = bound (next_number 0 id_most established.value.1) (behind_big_active known.value.0 established.value.0) (Happen event) established.after in
      let k = an_id unread known.value.1 known.value.0 known.before in
      let e = an_id known.value.1 established.value.1 established.value.0 established.before in
      let a = an_id established.value.1 active.value.1 active.value.0 active.before in
      let found : BigTargets = record { known = known.value.0; established = established.value.0; active = active.value.0 } in
      tested_by (codes "bigtargets") unread.words (big_targets_fault found) active.value.1 (BigAims found) event active.after (λ sound end. record {
        spelled = ap (after_first (codes "bigtargets")) (
            k.0 ∙ ap (after_first (decimal known.value.0)) (
            e.0 ∙ ap (after_first (decimal established.value.0)) (
            a.0 ∙ ap (after_first (decimal active.value.0)) end)));
        limits = sound;
        known = two;
      })

  -- ---- addresses and groups

  -- addresses up to the end
  last_addresses : (unread rest : Unread) (members : List Addr) → next_addresses version unread ≡ Ok (members, rest) → rest.words ≡ [] →
      (unread.words ≡ map printed_address members) × AreKnownIn version members
  last_addresses unread rest members h e =
      let r = addresses_only version unread.place unread.words members rest h in (
        r.spelled ∙ ap (λ (ws : List (List ℕ)). map printed_address members ++ ws) e ∙ append-nil (map printed_address members),
        All-from_recursion (IsKnownIn version) members r.known,
      )

  known_groups : (groups : List Group) → AllByRecursion (λ group. AllByRecursion (IsKnownIn version) group.members) groups → AllByRecursion (λ group. AreKnownIn version group.members) groups
  known_groups [] h = tt
  known_groups (group ∷ groups) h = (All-from_recursion (IsKnownIn version) group.members h.0, known_groups groups h.1)

  locals_told : (unread : Unread) (event : Event) → locals_line version unread ≡ Ok (Happen event) → IsTold (codes "locals") unread.words event
  locals_told unread event h =
      let t = bound (all_groups version unread) (λ groups. Ok (Happen (Locals groups))) (Happen event) h in
      let g = groups_only version (length unread.words) unread t.value (omega arith) t.before in
      subst (IsTold (codes "locals") unread.words) (happened (Locals t.value) event t.after) (record {
        spelled = ap (after_first (codes "locals")) g.spelled;
        limits = All-from_recursion HasValencies t.value g.valencies;
        known = All-from_recursion (λ group. AreKnownIn version group.members) t.value (known_groups t.value g.known);
      })

  abbrev behind_members : ℕ → ℕ → List Addr × Unread → Result Line LineRefusal
  behind_members job ttl r = no_more r.1 >>= λ end. Ok (Happen (Roots (record { 0 = job }) (Found ttl r.0)))

  abbrev behind_ttl : ℕ → ℕ × Unread → Result Line LineRefusal
  behind_ttl job r = next_addresses version r.1 >>= behind_members job r.0

  abbrev behind_job : ℕ → Bool × Unread → Result Line LineRefusal
  behind_job job r = cond r.0 (roots_found version job r.1) (roots_failed job r.1)

  found_told : (unread : Unread) (job : ℕ) (rest : Unread) (event : Event) → unread.words ≡ decimal job ∷ outcome_word true ∷ rest.words → job ≤ 2 ^ 48 →
      roots_found version job rest ≡ Ok (Happen event) → IsTold (codes "roots") unread.words event
  found_told unread job rest event front small h =
      let ttl = bound (next_number 1 interval_most rest) (behind_ttl job) (Happen event) h in
      let members = bound (next_addresses version ttl.value.1) (behind_members job ttl.value.0) (Happen event) ttl.after in
      let n = a_number 1 interval_most (lit< tt) rest ttl.value.1 ttl.value.0 ttl.before in
      closed_by (codes "roots") unread.words members.value.1 (Roots (record { 0 = job }) (Found ttl.value.0 members.value.0)) event members.after (λ e.
      let m = last_addresses ttl.value.1 members.value.1 members.value.0 members.before e in
      record {
        spelled = ap (after_first (codes "roots")) (front ∙ ap (λ (ws : List (List ℕ)). decimal job ∷ outcome_word true ∷ ws) (n.0 ∙ ap (after_first (decimal ttl.value.0)) m.0));
        limits = (small, in_range 1 interval_most ttl.value.0 n.1);
        known = m.1;
      })

  failed_told : (unread : Unread) (job : ℕ) (rest : Unread) (event : Event) → unread.words ≡ decimal job ∷ outcome_word false ∷ rest.words → job ≤ 2 ^ 48 →
      roots_failed job rest ≡ Ok (Happen event) → IsTold (codes "roots") unread.words event
  failed_told unread job rest event front small h =
      closed_by (codes "roots") unread.words rest (Roots (record { 0 = job }) Failed) event h (λ e. record {
        spelled = ap (after_first (codes "roots")) (front ∙ ap (λ (ws : List (List ℕ)). decimal job ∷ outcome_word false ∷ ws) e);
        limits = (small, tt);
        known = tt;
      })

  answer_told : (unread : Unread) (job : ℕ) (found : Bool) (rest : Unread) (event : Event) → unread.words ≡ decimal job ∷ outcome_word found ∷ rest.words → job ≤ 2 ^ 48 →
      behind_job job (found, rest) ≡ Ok (Happen event) → IsTold (codes "roots") unread.words event
  answer_told unread job true rest event front small h = found_told unread job rest event front small h
  answer_told unread job false rest event front small h = failed_told unread job rest event front small h

  roots_told : (unread : Unread) (event : Event) → roots_line version unread ≡ Ok (Happen event) → IsTold (codes "roots") unread.words event
  roots_told unread event h =
      let job = bound (next_number 0 id_most unread) (λ r. next_read outcome_of BadWord r.1 >>= behind_job r.0) (Happen event) h in
      let found = bound (next_read outcome_of BadWord job.value.1) (behind_job job.value.0) (Happen event) job.after in
      let n = an_id unread job.value.1 job.value.0 job.before in
      let w = an_outcome job.value.1 found.value.1 found.value.0 found.before in
      answer_told unread job.value.0 found.value.0 found.value.1 event (n.0 ∙ ap (after_first (decimal job.value.0)) w) n.1 found.after

  bigs_told : version ≡ 2 → (unread : Unread) (event : Event) → bigs_line version unread ≡ Ok (Happen event) → IsTold (codes "bigs") unread.words event
  bigs_told two unread event h =
      let t = bound (next_addresses version unread) (λ r. no_more r.1 >>= λ end. Ok (Happen (Bigs r.0))) (Happen event) h in
      closed_by (codes "bigs") unread.words t.value.1 (Bigs t.value.0) event t.after (λ e.
      let m = last_addresses unread t.value.1 t.value.0 t.before e in
      record { spelled = ap (after_first (codes "bigs")) m.0; limits = tt; known = (two, m.1) })

  -- ---- by the name of the event

  module _ (name : List ℕ) (unread : Unread) (event : Event) where
    abbrev Tells : Result Line LineRefusal → Type 0
    Tells r = r ≡ Ok (Happen event) → IsTold name unread.words event

    named : (text : List ℕ) → bytes_eq name text ≡ true → IsTold text unread.words event → IsTold name unread.words event
    named text h told = subst (λ (name : List ℕ). IsTold name unread.words event) (sym (same_bytes name text h)) told

    by_name : (text : List ℕ) (first others : Result Line LineRefusal) → (first ≡ Ok (Happen event) → IsTold text unread.words event) → Tells others → Tells (cond (bytes_eq name text) first others)
    by_name text first others told more = cond_both (bytes_eq name text) first others Tells (λ h e. named text h (told e)) (λ _. more)

    by_big_name : (text : List ℕ) (first others : Result Line LineRefusal) → (version ≡ 2 → first ≡ Ok (Happen event) → IsTold text unread.words event) → Tells others →
        Tells (cond (eqb version 2 && bytes_eq name text) first others)
    by_big_name text first others told more = cond_both (eqb version 2 && bytes_eq name text) first others Tells
        (λ h e. let p = and_parts (eqb version 2) (bytes_eq name text) h in named text p.1 (told (eqb-true version 2 p.0) e))
        (λ _. more)

    none_told : Tells (Err (BadWord 1))
    none_told h = absurd cc

    big_told : Tells (big_line version name unread)
    big_told =
        by_big_name (codes "bigtargets") (big_targets_line unread) _ (λ two. big_targets_told two unread event)
        (by_big_name (codes "bigs") (bigs_line version unread) _ (λ two. bigs_told two unread event) none_told)

    provided_told : Tells (provided_line version name unread)
    provided_told =
        by_name (codes "targets") (targets_line unread) _ (targets_told unread event)
        (by_name (codes "locals") (locals_line version unread) _ (locals_told unread event)
        (by_name (codes "roots") (roots_line version unread) (big_line version name unread) (roots_told unread event) big_told))

    pub event_told : Tells (event_line version name unread)
    event_told =
        by_name (codes "now") (now_line unread) _ (now_told unread event)
        (by_name (codes "govern") (govern_line unread) _ (govern_told unread event)
        (by_name (codes "accepted") (accepted_line version unread) _ (accepted_told unread event)
        (by_name (codes "dialed") (dialed_line unread) _ (dialed_told unread event)
        (by_name (codes "bytes") (bytes_line unread) _ (bytes_told unread event)
        (by_name (codes "closed") (closed_line unread) (provided_line version name unread) (closed_told unread event) provided_told)))))

  -- ---- a whole line

  pub first_only : (place : ℕ) (words : List (List ℕ)) (name : List ℕ) (rest : Unread) → first_word place words ≡ Ok (name, rest) → words ≡ name ∷ rest.words
  first_only place [] name rest h = absurd cc
  first_only place (word ∷ words) name rest h =
      let p = ok_parts (word, record { words = words; place = place + 1 }) (name, rest) h in
      ap (λ (w : List ℕ). w ∷ words) p.0 ∙ ap (λ (r : Unread). name ∷ r.words) p.1

  pub record IsLineOf (line : List ℕ) (event : Event) : Type 0 where
    pub printed : line ≡ printed_event event
    pub limits : IsWithinLimits event
    pub known : IsEventIn version event

  pub line_told : (line : List ℕ) (event : Event) → event_of version line ≡ Ok (Happen event) → IsLineOf line event
  line_told line event h =
      let t = bound (next_word (words_of line)) (λ r. event_line version r.0 r.1) (Happen event) h in
      let told = event_told t.value.0 t.value.1 event t.after in
      let words = first_only 1 (pieces_of 32 line) t.value.0 t.value.1 t.before in
      record {
        printed = sym (join_with_byte-slice_split 32 line) ∙ ap (join_with_byte 32) (words ∙ told.spelled);
        limits = told.limits;
        known = told.known;
      }

-- ---- an event line says an event, and nothing else

abbrev pub IsHappening : Line → Type 0
IsHappening (Head head) = ⊥
IsHappening (Happen event) = Unit {0}
IsHappening Acted = ⊥
IsHappening End = ⊥

IfOk-chain : {A : Type 0} (r : Result A LineRefusal) (f : A → Result Line LineRefusal) → ((x : A) → IfOk (f x) IsHappening) → IfOk (r >>= f) IsHappening
IfOk-chain (Ok x) f h = h x
IfOk-chain (Err refusal) f h = tt

IfOk-cond : (b : Bool) (r s : Result Line LineRefusal) → IfOk r IsHappening → IfOk s IsHappening → IfOk (cond b r s) IsHappening
IfOk-cond true r s h k = h
IfOk-cond false r s h k = k

one_event : {A : Type 0} (rest : A → Unread) (event : A → Event) (r : Result A LineRefusal) → IfOk (r >>= λ x. no_more (rest x) >>= λ end. Ok (Happen (event x))) IsHappening
one_event rest event r = IfOk-chain r _ (λ x. IfOk-chain (no_more (rest x)) _ (λ _. tt))

module _ (version : ℕ) (unread : Unread) where
  dialed_happens : IfOk (dialed_line unread) IsHappening
  dialed_happens = IfOk-chain (next_number 0 id_most unread) _ (λ r. one_event (λ s. s.1) (λ s. Dialed (record { 0 = r.0 }) s.0) (next_read outcome_of BadWord r.1))

  bytes_happens : IfOk (bytes_line unread) IsHappening
  bytes_happens = IfOk-chain (next_number 0 id_most unread) _ (λ r. one_event (λ s. s.1) (λ s. Bytes (record { 0 = r.0 }) s.0) (next_read piece_of BadWord r.1))

  tested_happens : (fault : Option Field) (rest : Unread) (event : Event) → IfOk (in_bounds fault >>= λ tested. no_more rest >>= λ end. Ok (Happen event)) IsHappening
  tested_happens fault rest event = IfOk-chain (in_bounds fault) _ (λ _. IfOk-chain (no_more rest) _ (λ _. tt))

  targets_happens : IfOk (targets_line unread) IsHappening
  targets_happens =
      IfOk-chain (next_number 0 id_most unread) _ (λ r.
      IfOk-chain (next_number 0 id_most r.1) _ (λ k.
      IfOk-chain (next_number 0 id_most k.1) _ (λ e.
      IfOk-chain (next_number 0 id_most e.1) _ (λ a. tested_happens _ a.1 _))))

  big_targets_happens : IfOk (big_targets_line unread) IsHappening
  big_targets_happens =
      IfOk-chain (next_number 0 id_most unread) _ (λ k.
      IfOk-chain (next_number 0 id_most k.1) _ (λ e.
      IfOk-chain (next_number 0 id_most e.1) _ (λ a. tested_happens _ a.1 _)))

  roots_happens : IfOk (roots_line version unread) IsHappening
  roots_happens =
      IfOk-chain (next_number 0 id_most unread) _ (λ r.
      IfOk-chain (next_read outcome_of BadWord r.1) _ (λ s.
      IfOk-cond s.0 (roots_found version r.0 s.1) (roots_failed r.0 s.1)
      (IfOk-chain (next_number 1 interval_most s.1) _ (λ t. one_event (λ m. m.1) (λ m. Roots (record { 0 = r.0 }) (Found t.0 m.0)) (next_addresses version t.1)))
      (IfOk-chain (no_more s.1) _ (λ _. tt))))

  pub event_happens : (name : List ℕ) → IfOk (event_line version name unread) IsHappening
  event_happens name =
      IfOk-cond (bytes_eq name (codes "now")) _ _ (one_event (λ r. r.1) (λ r. Now r.0) (next_number 0 id_most unread)) (
      IfOk-cond (bytes_eq name (codes "govern")) _ _ (one_event (λ r. r.1) (λ r. Govern r.0) (next_number 0 word_most unread)) (
      IfOk-cond (bytes_eq name (codes "accepted")) _ _ (one_event (λ r. r.1) (λ r. Accepted r.0) (next_address version unread)) (
      IfOk-cond (bytes_eq name (codes "dialed")) _ _ dialed_happens (
      IfOk-cond (bytes_eq name (codes "bytes")) _ _ bytes_happens (
      IfOk-cond (bytes_eq name (codes "closed")) _ _ (one_event (λ r. r.1) (λ r. Closed (record { 0 = r.0 })) (next_number 0 id_most unread)) (
      IfOk-cond (bytes_eq name (codes "targets")) _ _ targets_happens (
      IfOk-cond (bytes_eq name (codes "locals")) _ _ (IfOk-chain (all_groups version unread) _ (λ _. tt)) (
      IfOk-cond (bytes_eq name (codes "roots")) _ _ roots_happens (
      IfOk-cond (eqb version 2 && bytes_eq name (codes "bigtargets")) _ _ big_targets_happens (
      IfOk-cond (eqb version 2 && bytes_eq name (codes "bigs")) _ _ (one_event (λ r. r.1) (λ r. Bigs r.0) (next_addresses version unread)) tt))))))))))

  -- what holds of each event within the limits holds of what an event line says
  pub event_line-is : (P : Line → Type 0) → ((event : Event) → IsWithinLimits event → P (Happen event)) → (name : List ℕ) → IfOk (event_line version name unread) P
  event_line-is P each name = go (event_line version name unread) refl (event_happens name)
    where
      go : (r : Result Line LineRefusal) → event_line version name unread ≡ r → IfOk r IsHappening → IfOk r P
      go (Ok (Happen event)) e h = each event (event_told version name unread event e).limits
      go (Ok (Head head)) e h = absurd h
      go (Ok Acted) e h = absurd h
      go (Ok End) e h = absurd h
      go (Err refusal) e h = tt
