-- The laws on the clients.
use Rattle.std.proofs.Common.{◌≡◌, ◌≢◌, ℕ, ◌+◌, ◌≤◌, ◌<◌, eqb, leb, ◌⊎◌, List, [], ◌∷◌, ◌++◌, length, take, drop, Option, Some, None, Result, Ok, Err, refl, sym, ap, subst, ◌∙◌, append_assoc, arith, inl, inr}
use Rattle.std.specs.Prelude.{map, filter}
use Rattle.std.specs.List.{AllByRecursion}
use Rattle.std.specs.Option.{option_map}
use Rattle.std.proofs.lemmas.Bool.{cases_Bool, eqb-true, eqb-false, le-leb, lt-leb, leb-true}
use Rattle.std.proofs.lemmas.List.{append-nil}
use Rattle.cbor_items.specs.Scan.{scan_of}
use Rattle.hs_message.specs.Reading.{client_message_of}
use Rattle.hs_message.specs.declared.message.Message.{Message}
use Rattle.hs_message.specs.declared.message.Message.TheVariants as message
use Rattle.mux_segment.specs.declared.fault.CutFault.{CutFault}
use Rattle.mux_segment.specs.Steps.{next_of}
use Rattle.mux_segment.specs.Segment.{Segment, Cut, cut_of}
use Rattle.mux_segment.proofs.Cuts.{cut_append, cut_then}
use Rattle.net_base.specs.declared.action.FaultKind.{FaultKind}
use Rattle.net_base.specs.declared.action.FaultKind.TheVariants.{UnknownId, Protocol}
use Rattle.local_clients.specs.declared.action.ClientAction.{ClientAction}
use Rattle.local_clients.specs.declared.action.ClientAction.TheVariants.{Admit, Turnaway}
use Rattle.local_clients.specs.declared.client.GreetingClient.{GreetingClient}
use Rattle.local_clients.specs.declared.client.OpenClient.{OpenClient}
use Rattle.local_clients.specs.declared.context.Context.{Context}
use Rattle.local_clients.specs.declared.event.ClientEvent.{ClientEvent}
use Rattle.local_clients.specs.declared.event.ClientEvent.TheVariants.{Now, Joined, Bytes, Gone}
use Rattle.local_clients.specs.declared.phase.Phase.{Phase}
use Rattle.local_clients.specs.declared.phase.Phase.TheVariants.{Greeting, Open}
use Rattle.local_clients.specs.declared.rules.ClientRules.{ClientRules}
use Rattle.local_clients.specs.declared.decision.Decision.{Decision}
use Rattle.local_clients.specs.declared.decision.Decision.TheVariants.{NoCommon, NotUnderstood, OtherMagic, Asked, Agreed}
use Rattle.local_clients.specs.Rules.{AreInRange, CanHappen}
use Rattle.local_clients.specs.Agreement.{decision_of}
use Rattle.local_clients.specs.Hearing.{Heard, goes_on, faults, decided, item_heard, handshake_limit, first_heard, is_client_protocol, header_fault, payload_heard, heard_unless, segment_heard, then_heard, heard}
use Rattle.local_clients.specs.Clients.{ClientTable, ClientsState, no_clients, live, client_at, without, version_of, open_version, Stepped, nothing_done, is_due, waited_too_long, leaves, put_back, hears, hears_client, bytes_come, stepped}
use Rattle.local_clients.specs.Kept.{IdsRise, IsGiven, AreApart, AreKept}
use Rattle.local_clients.specs.Law.{run, AreReached, AreFew, RiseInTheirTime, IsTurnaway, TurnsAway, AreTurnedAway, PiecesDoNotMatter, IsOpenFault, StaysOrGoes, OpenClientsStay, GoneAreGone, KeepTheirTime, AreLawful}
use Rattle.local_clients.proofs.Ids.{gone_without, other_without, here_with, other_with, without_absent, without_with}
use Rattle.local_clients.proofs.Behaviour.{goes_alone, stays_away, keeps_time, fitting_proposals_open, faults_are_of_bytes}
use Rattle.local_clients.proofs.Keeps.{ids_of_time, kept_after}
use Rattle.local_clients.proofs.Lists.{all_found}

-- ---- clients that are reached

reached_on : (rules : ClientRules) (events : List ClientEvent) (taken : ℕ) (t : ClientTable) → taken + length events ≤ 1000000
    → AllByRecursion CanHappen events → AreKept (record { rules = rules; taken = taken; table = t })
    → AreKept (record { rules = rules; taken = taken + length events; table = (run stepped rules events t).table })
reached_on rules [] taken t few happen kept = let same : taken + 0 ≡ taken = omega arith in rw same kept
reached_on rules (event ∷ events) taken t few happen kept =
    let before : ClientsState = record { rules = rules; taken = taken; table = t } in
    let after = kept_after before (omega (arith, few)) kept event happen.0 in
    let on = reached_on rules events (taken + 1) (stepped rules event t).table (omega (arith, few)) happen.1 after in
    let same : taken + 1 + length events ≡ taken + length (event ∷ events) = omega arith in
    subst (λ (n : ℕ). AreKept (record { rules = rules; taken = n; table = (run stepped rules (event ∷ events) t).table })) same on

nobody_kept : (rules : ClientRules) → AreInRange rules → AreKept (record { rules = rules; taken = 0; table = no_clients })
nobody_kept rules ranges = record {
  ranges = ranges;
  few = omega arith;
  moment = omega arith;
  ids = omega arith;
  limit = omega arith;
  given = tt;
  rise = tt;
  opened_given = tt;
  opened_rise = tt;
  apart = λ q client found. absurd cc;
}

reached : (rules : ClientRules) (t : ClientTable) (r : AreReached stepped rules t) → AreKept (record { rules = rules; taken = length r.events; table = t })
reached rules t r =
    subst (λ (x : ClientTable). AreKept (record { rules = rules; taken = length r.events; table = x })) (sym r.leads)
    (let same : 0 + length r.events ≡ length r.events = omega arith in
    subst (λ (n : ℕ). AreKept (record { rules = rules; taken = n; table = (run stepped rules r.events no_clients).table })) same
    (reached_on rules r.events 0 no_clients (omega (arith, r.few)) r.happen (nobody_kept rules r.ranges)))

pub are_few : AreFew stepped
are_few rules t r = (reached rules t r).limit

pub rise_in_their_time : RiseInTheirTime stepped
rise_in_their_time rules t r = (reached rules t r).rise

-- ---- who is turned away

turned_away_full : (rules : ClientRules) (t : ClientTable) → rules.limit ≤ live t → stepped rules Joined t ≡ record { table = t; actions = Turnaway ∷ [] }
turned_away_full rules t full = rw (le-leb rules.limit (live t) full) refl

abbrev IsOther : ClientAction → Type 0
IsOther action = IsTurnaway action → ⊥

closes_no_turnaway : (es : List (ℕ × GreetingClient)) → AllByRecursion IsOther (map waited_too_long es)
closes_no_turnaway [] = tt
closes_no_turnaway (e ∷ es) = (λ is. absurd cc, closes_no_turnaway es)

all_append : (xs ys : List ClientAction) → AllByRecursion IsOther xs → AllByRecursion IsOther ys → AllByRecursion IsOther (xs ++ ys)
all_append [] ys first second = second
all_append (x ∷ xs) ys first second = (first.0, all_append xs ys first.1 second)

module _ (context : Context) where
  decided_no_turnaway : (left : List ℕ) (decision : Decision) → AllByRecursion IsOther (decided context left decision).actions
  decided_no_turnaway left NoCommon = (λ is. absurd cc, (λ is. absurd cc, tt))
  decided_no_turnaway left (NotUnderstood version) = (λ is. absurd cc, (λ is. absurd cc, tt))
  decided_no_turnaway left (OtherMagic version) = (λ is. absurd cc, (λ is. absurd cc, tt))
  decided_no_turnaway left Asked = (λ is. absurd cc, (λ is. absurd cc, tt))
  decided_no_turnaway left (Agreed version) =
      elim (cases_Bool (eqb (length left) 0)) [
        | inl none ↦ rw none (λ is. absurd cc, (λ is. absurd cc, tt))
        | inr some ↦ rw some (λ is. absurd cc, (λ is. absurd cc, (λ is. absurd cc, tt)))
      ]

  item_no_turnaway : (left : List ℕ) (m : Option Message) → AllByRecursion IsOther (item_heard context left m).actions
  item_no_turnaway left None = (λ is. absurd cc, tt)
  item_no_turnaway left (Some (message.Propose table)) = decided_no_turnaway left (decision_of context.magic table)
  item_no_turnaway left (Some (message.Accept version info)) = (λ is. absurd cc, tt)
  item_no_turnaway left (Some (message.Refuse reason)) = (λ is. absurd cc, tt)
  item_no_turnaway left (Some (message.QueryReply table)) = (λ is. absurd cc, tt)

  first_no_turnaway : (until : ℕ) (part : List ℕ) (next : Result (Option ℕ) CutFault) → AllByRecursion IsOther (first_heard context until part next).actions
  first_no_turnaway until part (Ok None) = tt
  first_no_turnaway until part (Ok (Some n)) = item_no_turnaway (drop n part) (client_message_of (take n part))
  first_no_turnaway until part (Err fault) = (λ is. absurd cc, tt)

  payload_no_turnaway : (phase : Phase) (id : ℕ) (payload : List ℕ) → AllByRecursion IsOther (payload_heard context phase id payload).actions
  payload_no_turnaway (Greeting until part) id payload =
      elim (cases_Bool (eqb id 0)) [
        | inl handshake ↦ rw handshake (first_no_turnaway until (part ++ payload) (next_of (scan_of (part ++ payload)) handshake_limit (part ++ payload)))
        | inr other ↦ rw other (λ is. absurd cc, tt)
      ]
  payload_no_turnaway (Open version) id payload =
      elim (cases_Bool (eqb id 0)) [
        | inl handshake ↦ rw handshake (λ is. absurd cc, tt)
        | inr other ↦ rw other tt
      ]

  unless_no_turnaway : (fault : Option FaultKind) (phase : Phase) (id : ℕ) (payload : List ℕ) → AllByRecursion IsOther (heard_unless fault context phase id payload).actions
  unless_no_turnaway (Some kind) phase id payload = (λ is. absurd cc, tt)
  unless_no_turnaway None phase id payload =
      elim (cases_Bool (eqb (length payload) 0)) [
        | inl none ↦ rw none tt
        | inr some ↦ rw some (payload_no_turnaway phase id payload)
      ]

  then_no_turnaway : (actions : List ClientAction) (next : Option Phase) (others : Phase → Heard) → AllByRecursion IsOther actions
      → ((p : Phase) → AllByRecursion IsOther (others p).actions) → AllByRecursion IsOther (then_heard actions next others).actions
  then_no_turnaway actions None others first later = first
  then_no_turnaway actions (Some next) others first later = all_append actions (others next).actions first (later next)

  segment_no_turnaway : (phase : Phase) (s : Segment) → AllByRecursion IsOther (segment_heard context phase s).actions
  unfolding segment_heard
  segment_no_turnaway phase s = unless_no_turnaway (header_fault s.header) phase s.header.id s.payload

  heard_no_turnaway : (segments : List Segment) (phase : Phase) → AllByRecursion IsOther (heard context phase segments).actions
  unfolding heard
  heard_no_turnaway [] phase = tt
  heard_no_turnaway (s ∷ segments) phase =
      let first = segment_heard context phase s in
      then_no_turnaway first.actions first.phase (λ next. heard context next segments) (segment_no_turnaway phase s) (heard_no_turnaway segments)

bytes_no_turnaway : (rules : ClientRules) (t : ClientTable) (id : ℕ) (bytes : List ℕ) (greeter : Option GreetingClient) (opened : Option OpenClient)
    → AllByRecursion IsOther (hears_client rules id bytes t greeter opened).actions
bytes_no_turnaway rules t id bytes (Some client) opened =
    heard_no_turnaway (record { client = id; magic = rules.magic; moment = t.moment }) (cut_of (client.rest ++ bytes)).segments (Greeting client.until client.part)
bytes_no_turnaway rules t id bytes None (Some client) =
    heard_no_turnaway (record { client = id; magic = rules.magic; moment = t.moment }) (cut_of (client.rest ++ bytes)).segments (Open client.version)
bytes_no_turnaway rules t id bytes None None = tt

turned_away_only : (rules : ClientRules) (t : ClientTable) (event : ClientEvent) → ((event ≡ Joined) × (rules.limit ≤ live t) → ⊥)
    → AllByRecursion IsOther (stepped rules event t).actions
turned_away_only rules t (Now moment) not_full =
    elim (cases_Bool (leb moment t.moment)) [
      | inl early ↦ rw early tt
      | inr late ↦ rw late (closes_no_turnaway (filter (is_due moment) t.greeting))
    ]
turned_away_only rules t Joined not_full =
    elim (cases_Bool (leb rules.limit (live t))) [
      | inl full ↦ absurd (not_full (refl, leb-true rules.limit (live t) full))
      | inr room ↦ rw room (λ is. absurd cc, tt)
    ]
turned_away_only rules t (Bytes id bytes) not_full = bytes_no_turnaway rules t id bytes (client_at id t.greeting) (client_at id t.opened)
turned_away_only rules t (Gone id) not_full = tt

let_in : (rules : ClientRules) (t : ClientTable) → live t < rules.limit → (stepped rules Joined t).actions ≡ Admit t.next_id ∷ []
let_in rules t room = rw (lt-leb rules.limit (live t) room) refl

pub are_turned_away : AreTurnedAway stepped
are_turned_away rules t = record { full = turned_away_full rules t; room = let_in rules t; only = turned_away_only rules t }

-- ---- in whatever pieces bytes come

add_front : (actions xs : List ClientAction) (p : Option Phase) (h : Phase → Heard)
    → ◌≡◌ {A = Heard} (record { actions = actions ++ (then_heard xs p h).actions; phase = (then_heard xs p h).phase }) (then_heard (actions ++ xs) p h)
add_front actions xs None h = refl
add_front actions xs (Some next) h = ap (λ (l : List ClientAction). record { actions = l; phase = (h next).phase }) (sym (append_assoc actions xs (h next).actions))

then_then : (actions : List ClientAction) (p : Option Phase) (f g h : Phase → Heard) → ((n : Phase) → f n ≡ then_heard (g n).actions (g n).phase h)
    → then_heard actions p f ≡ then_heard (then_heard actions p g).actions (then_heard actions p g).phase h
then_then actions None f g h each = refl
then_then actions (Some next) f g h each =
    ap (λ (x : Heard). record { actions = actions ++ x.actions; phase = x.phase }) (each next) ∙ add_front actions (g next).actions (g next).phase h

heard_both : (context : Context) (xs ys : List Segment) (phase : Phase) → heard context phase (xs ++ ys)
    ≡ then_heard (heard context phase xs).actions (heard context phase xs).phase (λ next. heard context next ys)
unfolding heard
heard_both context [] ys phase = refl
heard_both context (s ∷ xs) ys phase =
    let first = segment_heard context phase s in
    then_then first.actions first.phase (λ next. heard context next (xs ++ ys)) (λ next. heard context next xs) (λ next. heard context next ys) (heard_both context xs ys)

module _ (rules : ClientRules) (id : ℕ) (t : ClientTable) (greeters : IdsRise t.greeting) (openers : IdsRise t.opened) where
  abbrev context_of : Context
  context_of = record { client = id; magic = rules.magic; moment = t.moment }

  abbrev left_by : ClientTable
  left_by = leaves id t

  no_greeter : client_at id (without id t.greeting) ≡ None
  no_greeter = gone_without id t.greeting greeters

  nobody_open : client_at id (without id t.opened) ≡ None
  nobody_open = gone_without id t.opened openers

  -- a client that was put back is heard on
  greeter_again : (until : ℕ) (part rest two : List ℕ)
      → bytes_come rules id two (put_back id (Some (Greeting until part, rest)) left_by) ≡ hears rules id (Greeting until part) (rest ++ two) left_by
  greeter_again until part rest two =
      let client : GreetingClient = record { until = until; rest = rest; part = part } in
      let back = put_back id (Some (Greeting until part, rest)) left_by in
      let same : leaves id back ≡ left_by =
      ap (λ (l : List (ℕ × GreetingClient)). record { moment = t.moment; next_id = t.next_id; greeting = l; opened = without id (without id t.opened) })
      (without_with id client (without id t.greeting) no_greeter)
      ∙ ap (λ (l : List (ℕ × OpenClient)). record { moment = t.moment; next_id = t.next_id; greeting = without id t.greeting; opened = l })
      (without_absent id (without id t.opened) nobody_open) in
      ap (λ (g : Option GreetingClient). hears_client rules id two back g (client_at id back.opened)) (here_with id client (without id t.greeting))
      ∙ ap (hears rules id (Greeting until part) (rest ++ two)) same

  opened_again : (version : ℕ) (rest two : List ℕ)
      → bytes_come rules id two (put_back id (Some (Open version, rest)) left_by) ≡ hears rules id (Open version) (rest ++ two) left_by
  opened_again version rest two =
      let client : OpenClient = record { version = version; rest = rest } in
      let back = put_back id (Some (Open version, rest)) left_by in
      let same : leaves id back ≡ left_by =
      ap (λ (l : List (ℕ × GreetingClient)). record { moment = t.moment; next_id = t.next_id; greeting = l; opened = without id back.opened })
      (without_absent id (without id t.greeting) no_greeter)
      ∙ ap (λ (l : List (ℕ × OpenClient)). record { moment = t.moment; next_id = t.next_id; greeting = without id t.greeting; opened = l })
      (without_with id client (without id t.opened) nobody_open) in
      ap (λ (g : Option GreetingClient). hears_client rules id two back g (client_at id back.opened)) no_greeter
      ∙ ap (λ (o : Option OpenClient). hears_client rules id two back None o) (here_with id client (without id t.opened))
      ∙ ap (hears rules id (Open version) (rest ++ two)) same

  nobody_again : (two : List ℕ) → bytes_come rules id two left_by ≡ nothing_done left_by
  nobody_again two =
      ap (λ (g : Option GreetingClient). hears_client rules id two left_by g (client_at id left_by.opened)) no_greeter
      ∙ ap (λ (o : Option OpenClient). hears_client rules id two left_by None o) nobody_open

  -- what is done with the second piece, by how far the client came with the first
  abbrev second_of : Option Phase → List ℕ → List ℕ → Stepped
  second_of p rest two = bytes_come rules id two (put_back id (option_map (λ next. (next, rest)) p) left_by)

  abbrev both_of : List ClientAction → Option Phase → List ℕ → List ℕ → Stepped
  both_of actions p rest two =
      let c = cut_of (rest ++ two) in
      let h = then_heard actions p (λ next. heard context_of next c.segments) in
      record { table = put_back id (option_map (λ next. (next, c.rest)) h.phase) left_by; actions = h.actions }

  second_piece : (actions : List ClientAction) (p : Option Phase) (rest two : List ℕ)
      → ((second_of p rest two).table ≡ (both_of actions p rest two).table) × (actions ++ (second_of p rest two).actions ≡ (both_of actions p rest two).actions)
  second_piece actions None rest two = rw (nobody_again two) (refl, append-nil actions)
  second_piece actions (Some (Greeting until part)) rest two = rw (greeter_again until part rest two) (refl, refl)
  second_piece actions (Some (Open version)) rest two = rw (opened_again version rest two) (refl, refl)

  -- both pieces at once
  whole_piece : (phase : Phase) (rest one two : List ℕ) → let c = cut_of (rest ++ one) in let h = heard context_of phase c.segments in
      hears rules id phase (rest ++ (one ++ two)) left_by ≡ both_of h.actions h.phase c.rest two
  whole_piece phase rest one two =
      let c = cut_of (rest ++ one) in
      let more = cut_of (c.rest ++ two) in
      let cut : cut_of (rest ++ (one ++ two)) ≡ cut_then c two = ap cut_of (sym (append_assoc rest one two)) ∙ cut_append (rest ++ one) two in
      let of_cut : Cut → Stepped = λ x. let h = heard context_of phase x.segments in record { table = put_back id (option_map (λ next. (next, x.rest)) h.phase) left_by; actions = h.actions } in
      let of_heard : Heard → Stepped = λ h. record { table = put_back id (option_map (λ next. (next, more.rest)) h.phase) left_by; actions = h.actions } in
      ap of_cut cut ∙ ap of_heard (heard_both context_of c.segments more.segments phase)

  one_piece_of : (phase : Phase) (rest one two : List ℕ) (whole : Stepped) → whole ≡ hears rules id phase (rest ++ (one ++ two)) left_by
      → let first = hears rules id phase (rest ++ one) left_by in let second = bytes_come rules id two first.table in
      (second.table ≡ whole.table) × (first.actions ++ second.actions ≡ whole.actions)
  one_piece_of phase rest one two whole is =
      let c = cut_of (rest ++ one) in
      let h = heard context_of phase c.segments in
      let both = is ∙ whole_piece phase rest one two in
      let pieces = second_piece h.actions h.phase c.rest two in
      (pieces.0 ∙ sym (ap (λ (s : Stepped). s.table) both), pieces.1 ∙ sym (ap (λ (s : Stepped). s.actions) both))

  abbrev OnePieceOf : (List ℕ → Stepped) → List ℕ → List ℕ → Type 0
  OnePieceOf come one two = let first = come one in let second = bytes_come rules id two first.table in
      (second.table ≡ (come (one ++ two)).table) × (first.actions ++ second.actions ≡ (come (one ++ two)).actions)

  by_client : (greeter : Option GreetingClient) (opener : Option OpenClient) (one two : List ℕ) → client_at id t.greeting ≡ greeter → client_at id t.opened ≡ opener
      → OnePieceOf (λ bytes. hears_client rules id bytes t greeter opener) one two
  by_client (Some client) opener one two found at =
      one_piece_of (Greeting client.until client.part) client.rest one two (hears rules id (Greeting client.until client.part) (client.rest ++ (one ++ two)) left_by) refl
  by_client None (Some client) one two none found =
      one_piece_of (Open client.version) client.rest one two (hears rules id (Open client.version) (client.rest ++ (one ++ two)) left_by) refl
  by_client None None one two none absent =
      let again : bytes_come rules id two t ≡ nothing_done t =
      ap (λ (g : Option GreetingClient). hears_client rules id two t g (client_at id t.opened)) none ∙ ap (λ (o : Option OpenClient). hears_client rules id two t None o) absent in
      rw again (refl, refl)

pub pieces_do_not_matter : PiecesDoNotMatter stepped
pieces_do_not_matter rules id t one two r =
    let kept = reached rules t r in
    let p = by_client rules id t (ids_of_time t.greeting kept.rise) kept.opened_rise (client_at id t.greeting) (client_at id t.opened) one two refl refl in
    record { table = p.0; actions = p.1 }

-- ---- how an open client goes

abbrev IsHeardOpen : Context → ℕ → Heard → Type 0
IsHeardOpen context version h = (h ≡ goes_on (Open version)) ⊎ ((kind : FaultKind) × IsOpenFault kind × (h ≡ faults context kind))

module _ (context : Context) (version : ℕ) where
  segment_open : (s : Segment) → IsHeardOpen context version (segment_heard context (Open version) s)
  unfolding segment_heard
  segment_open s =
      elim (cases_Bool (is_client_protocol s.header.id)) [
        | inr unknown ↦ rw unknown (inr (UnknownId, inl refl, refl))
        | inl known ↦ elim (cases_Bool (eqb s.header.side 1)) [
          | inl responder ↦ rw (known, responder) (inr (Protocol, inr refl, refl))
          | inr initiator ↦ elim (cases_Bool (eqb (length s.payload) 0)) [
            | inl none ↦ rw (known, initiator, none) (inl refl)
            | inr some ↦ elim (cases_Bool (eqb s.header.id 0)) [
              | inl handshake ↦ rw (known, initiator, some, handshake) (inr (Protocol, inr refl, refl))
              | inr other ↦ rw (known, initiator, some, other) (inl refl)
            ]
          ]
        ]
      ]

  heard_open : (segments : List Segment) → IsHeardOpen context version (heard context (Open version) segments)
  unfolding heard
  heard_open [] = inl refl
  heard_open (s ∷ segments) =
      elim (segment_open s) [
        | inl on ↦ rw on (heard_open segments)
        | inr (kind, fault, is) ↦ rw is (inr (kind, fault, refl))
      ]

-- another client's turn
other_stays : (q id : ℕ) (t : ClientTable) (next : Option (Phase × List ℕ)) → q ≢ id → client_at q (put_back id next (leaves id t)).opened ≡ client_at q t.opened
other_stays q id t None ne = other_without q id t.opened ne
other_stays q id t (Some (Greeting until part, rest)) ne = other_without q id t.opened ne
other_stays q id t (Some (Open version, rest)) ne =
    other_with q id (record { version = version; rest = rest }) (without id t.opened) ne ∙ other_without q id t.opened ne

other_heard : (rules : ClientRules) (q id : ℕ) (bytes : List ℕ) (t : ClientTable) (greeter : Option GreetingClient) (opener : Option OpenClient) → q ≢ id
    → client_at q (hears_client rules id bytes t greeter opener).table.opened ≡ client_at q t.opened
other_heard rules q id bytes t (Some client) opener ne =
    let c = cut_of (client.rest ++ bytes) in
    let h = heard (record { client = id; magic = rules.magic; moment = t.moment }) (Greeting client.until client.part) c.segments in
    other_stays q id t (option_map (λ next. (next, c.rest)) h.phase) ne
other_heard rules q id bytes t None (Some client) ne =
    let c = cut_of (client.rest ++ bytes) in
    let h = heard (record { client = id; magic = rules.magic; moment = t.moment }) (Open client.version) c.segments in
    other_stays q id t (option_map (λ next. (next, c.rest)) h.phase) ne
other_heard rules q id bytes t None None ne = refl

own_bytes : (rules : ClientRules) (t : ClientTable) (id version : ℕ) (bytes : List ℕ) (client : OpenClient) → client.version ≡ version
    → client_at id t.greeting ≡ None → client_at id t.opened ≡ Some client → StaysOrGoes stepped rules (Bytes id bytes) id version t
own_bytes rules t id version bytes client same none found =
    let c = cut_of (client.rest ++ bytes) in
    let context : Context = record { client = id; magic = rules.magic; moment = t.moment } in
    let is : bytes_come rules id bytes t ≡ hears rules id (Open client.version) (client.rest ++ bytes) (leaves id t) =
    ap (λ (g : Option GreetingClient). hears_client rules id bytes t g (client_at id t.opened)) none ∙ ap (λ (o : Option OpenClient). hears_client rules id bytes t None o) found in
    let done : Heard → Stepped = λ h. record { table = put_back id (option_map (λ next. (next, c.rest)) h.phase) (leaves id t); actions = h.actions } in
    elim (heard_open context client.version c.segments) [
      | inl on ↦
          let table : (bytes_come rules id bytes t).table ≡ (done (goes_on (Open client.version))).table = ap (λ (s : Stepped). s.table) (is ∙ ap done on) in
          inl (ap (open_version id) table ∙ ap version_of (here_with id (record { version = client.version; rest = c.rest }) (without id t.opened)) ∙ ap (λ (v : ℕ). Some v) same)
      | inr (kind, fault, closed) ↦
          inr (inr (record { bytes = bytes; kind = kind; spoke = refl; fault = fault; closed = ap (λ (s : Stepped). s.actions) (is ∙ ap done closed) }))
    ]

-- who is open with this version
opener_of : (o : Option OpenClient) (version : ℕ) → version_of o ≡ Some version → (client : OpenClient) × (o ≡ Some client) × (client.version ≡ version)
opener_of None version e = absurd cc
opener_of (Some client) version e = (client, refl, cc)

pub stays_open : (rules : ClientRules) (t : ClientTable) → AreApart t → (event : ClientEvent) (id version : ℕ) → open_version id t ≡ Some version → StaysOrGoes stepped rules event id version t
stays_open rules t apart (Now moment) id version open_now =
    elim (cases_Bool (leb moment t.moment)) [
      | inl early ↦ rw early (inl open_now)
      | inr late ↦ rw late (inl open_now)
    ]
stays_open rules t apart Joined id version open_now =
    elim (cases_Bool (leb rules.limit (live t))) [
      | inl full ↦ rw full (inl open_now)
      | inr room ↦ rw room (inl open_now)
    ]
stays_open rules t apart (Gone q) id version open_now =
    elim (cases_Bool (eqb id q)) [
      | inl same ↦ inr (inl (ap (λ (n : ℕ). Gone n) (sym (eqb-true id q same))))
      | inr other ↦ inl (ap version_of (other_without id q t.opened (eqb-false id q other)) ∙ open_now)
    ]
stays_open rules t apart (Bytes q bytes) id version open_now =
    elim (cases_Bool (eqb id q)) [
      | inl same ↦
          let opener = opener_of (client_at id t.opened) version open_now in
          subst (λ (n : ℕ). StaysOrGoes stepped rules (Bytes n bytes) id version t) (eqb-true id q same)
          (own_bytes rules t id version bytes opener.0 opener.2 (apart id opener.0 opener.1) opener.1)
      | inr other ↦
          inl (ap version_of (other_heard rules id q bytes t (client_at q t.greeting) (client_at q t.opened) (eqb-false id q other)) ∙ open_now)
    ]

pub open_clients_stay : OpenClientsStay stepped
open_clients_stay rules t event id version r open_now = stays_open rules t (reached rules t r).apart event id version open_now

-- ---- one event

pub turns_away : (rules : ClientRules) (event : ClientEvent) (t : ClientTable) → TurnsAway rules event t (stepped rules event t).actions
turns_away rules event t = record {
  full = λ joined full. ap (λ (e : ClientEvent). (stepped rules e t).actions) joined ∙ ap (λ (s : Stepped). s.actions) (turned_away_full rules t full);
  only = turned_away_only rules t event;
}

-- ---- who goes, and when

given_to : (rules : ClientRules) (t : ClientTable) (r : AreReached stepped rules t) (q : ℕ) (client : GreetingClient) → client_at q t.greeting ≡ Some client → q < t.next_id
given_to rules t r q client found = (all_found (IsGiven rules.wait t) q client t.greeting (reached rules t r).given found).0

pub gone_are_gone : GoneAreGone stepped
gone_are_gone rules t r =
    let kept = reached rules t r in
    let greeters = ids_of_time t.greeting kept.rise in
    (goes_alone rules t greeters kept.opened_rise, stays_away rules t greeters kept.opened_rise)

pub keep_their_time : KeepTheirTime stepped
keep_their_time rules t r =
    let kept = reached rules t r in
    keeps_time rules t (ids_of_time t.greeting kept.rise) kept.opened_rise (given_to rules t r)

-- ---- all of it

pub are_lawful : (rules : ClientRules) (t : ClientTable) → AreReached stepped rules t → AreLawful rules t
are_lawful rules t r = record {
  few = are_few rules t r;
  in_time = rise_in_their_time rules t r;
  turned_away = are_turned_away rules t;
  one_piece = λ id one two. pieces_do_not_matter rules id t one two r;
  stay = λ event id version open_now. open_clients_stay rules t event id version r open_now;
  gone = (gone_are_gone rules t r).0;
  away = (gone_are_gone rules t r).1;
  time = keep_their_time rules t r;
  fitting = fitting_proposals_open rules t;
  faults = faults_are_of_bytes rules t;
}
