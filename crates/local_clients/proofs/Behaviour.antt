-- Who goes, how long a client may be silent, what opens, and which bytes are a fault.
use Rattle.std.proofs.Common.{◌≡◌, ◌≢◌, ℕ, ◌+◌, ◌≤◌, ◌<◌, Bool, true, false, cond, eqb, leb, not, ◌⊎◌, List, [], ◌∷◌, ◌++◌, length, take, drop, Option, Some, None, Result, Ok, Err, refl, sym, ap, subst, ◌∙◌, arith, inl, inr}
use Rattle.std.specs.Prelude.{map, filter}
use Rattle.std.specs.Option.{option_map}
use Rattle.std.specs.Ordering.{is_eq}
use Rattle.std.specs.declared.cmp.Ordering.{Ordering}
use Rattle.std.proofs.lemmas.Bool.{cases_Bool, eqb-true, eqb-false, eq-eqb, ne_eqb, le-leb, lt-leb}
use Rattle.std.proofs.lemmas.List.{drop_all}
use Rattle.std.proofs.Math.Seq.{take-length}
use Rattle.cbor_items.specs.Scan.{scan_of}
use Rattle.hs_message.specs.Reading.{client_message_of}
use Rattle.hs_message.specs.declared.info.Info.TheVariants.{Known}
use Rattle.hs_message.specs.declared.message.Message.{Message}
use Rattle.hs_message.specs.declared.message.Message.TheVariants as message
use Rattle.hs_message.specs.declared.offer.Offer.{Offer}
use Rattle.hs_receive.specs.Receiving.{kind_of}
use Rattle.mux_segment.specs.declared.fault.CutFault.{CutFault}
use Rattle.mux_segment.specs.Steps.{next_of}
use Rattle.mux_segment.specs.Segment.{Segment, cut_of}
use Rattle.net_base.specs.declared.action.FaultKind.{FaultKind}
use Rattle.net_base.specs.declared.action.FaultKind.TheVariants.{UnknownId, Protocol, Malformed, HandshakeWait}
use Rattle.local_clients.specs.declared.action.ClientAction.{ClientAction}
use Rattle.local_clients.specs.declared.action.ClientAction.TheVariants as action
use Rattle.local_clients.specs.declared.action.ClientCause.{ClientCause}
use Rattle.local_clients.specs.declared.action.ClientCause.TheVariants.{Refused, Query, Fault}
use Rattle.local_clients.specs.declared.client.GreetingClient.{GreetingClient}
use Rattle.local_clients.specs.declared.client.OpenClient.{OpenClient}
use Rattle.local_clients.specs.declared.context.Context.{Context}
use Rattle.local_clients.specs.declared.decision.Decision.{Decision}
use Rattle.local_clients.specs.declared.decision.Decision.TheVariants.{NoCommon, NotUnderstood, OtherMagic, Asked, Agreed}
use Rattle.local_clients.specs.declared.event.ClientEvent.{ClientEvent}
use Rattle.local_clients.specs.declared.event.ClientEvent.TheVariants.{Now, Joined, Bytes, Gone}
use Rattle.local_clients.specs.declared.phase.Phase.{Phase}
use Rattle.local_clients.specs.declared.phase.Phase.TheVariants.{Greeting, Open}
use Rattle.local_clients.specs.declared.rules.ClientRules.{ClientRules}
use Rattle.local_clients.specs.Agreement.{decides_info, decision_of, offer_of}
use Rattle.local_clients.specs.Hearing.{Heard, decided, concluded, item_heard, handshake_limit, first_heard, part_heard, is_client_protocol, payload_heard, segment_heard, then_heard, heard}
use Rattle.local_clients.specs.Clients.{ClientTable, live, client_at, without, open_version, version_of, is_due, waited_too_long, leaves, put_back, hears_client, bytes_come, stepped}
use Rattle.local_clients.specs.Kept.{IdsRise}
use Rattle.local_clients.specs.Law.{IsAbsent, GoesAlone, StaysAway, IsSilent, Has, ClosesInTime, KeepsTime, Fits, HasProposed, OpensWith, FittingProposalsOpen, IsItemFault, IsScanFault, HasItemFault, IsPayloadFault, IsSegmentFault, AreAtFault, AreFaultOf, FaultsAreOfBytes}
use Rattle.local_clients.proofs.Ids.{gone_without, other_without, here_with, other_with, absent_filter}
use Rattle.local_clients.proofs.Lists.{compared}

nothing_is : {X : Type 0} (x : X) → None ≡ Some x → ⊥
nothing_is x e = cc

-- ---- who is gone

module _ (rules : ClientRules) (t : ClientTable) (greeters : IdsRise t.greeting) (openers : IdsRise t.opened) where
  pub goes_alone : (id : ℕ) → GoesAlone stepped rules id t
  goes_alone id = record {
    gone = record { greets = gone_without id t.greeting greeters; opens = gone_without id t.opened openers };
    greeting = λ other ne. other_without other id t.greeting ne;
    opened = λ other ne. other_without other id t.opened ne;
    actions = refl;
  }

  absent_left : (id q : ℕ) → IsAbsent id t → IsAbsent id (leaves q t)
  absent_left id q absent = elim (cases_Bool (eqb id q)) [
    | inl same ↦
        let is : q ≡ id = sym (eqb-true id q same) in
        subst (λ (n : ℕ). IsAbsent id (leaves n t)) (sym is) (record { greets = gone_without id t.greeting greeters; opens = gone_without id t.opened openers })
    | inr other ↦
        let ne = eqb-false id q other in
        record { greets = other_without id q t.greeting ne ∙ absent.greets; opens = other_without id q t.opened ne ∙ absent.opens }
  ]

  put_back_absent : (id q : ℕ) (next : Option (Phase × List ℕ)) → id ≢ q → IsAbsent id t → IsAbsent id (put_back q next (leaves q t))
  put_back_absent id q None ne absent = absent_left id q absent
  put_back_absent id q (Some (Greeting until part, rest)) ne absent = record {
    greets = other_with id q (record { until = until; rest = rest; part = part }) (without q t.greeting) ne ∙ (absent_left id q absent).greets;
    opens = (absent_left id q absent).opens;
  }
  put_back_absent id q (Some (Open version, rest)) ne absent = record {
    greets = (absent_left id q absent).greets;
    opens = other_with id q (record { version = version; rest = rest }) (without q t.opened) ne ∙ (absent_left id q absent).opens;
  }

  heard_absent : (id q : ℕ) (bytes : List ℕ) (greeter : Option GreetingClient) (opener : Option OpenClient) → client_at q t.greeting ≡ greeter → client_at q t.opened ≡ opener → IsAbsent id t
      → IsAbsent id (hears_client rules q bytes t greeter opener).table
  heard_absent id q bytes (Some client) opener found at absent =
      let apart : id ≢ q = λ is. nothing_is client (sym absent.greets ∙ (ap (λ (n : ℕ). client_at n t.greeting) is ∙ found)) in
      put_back_absent id q _ apart absent
  heard_absent id q bytes None (Some client) none found absent =
      let apart : id ≢ q = λ is. nothing_is client (sym absent.opens ∙ (ap (λ (n : ℕ). client_at n t.opened) is ∙ found)) in
      put_back_absent id q _ apart absent
  heard_absent id q bytes None None none at absent = absent

  pub stays_away : StaysAway stepped rules t
  stays_away (Now moment) id given absent = elim (cases_Bool (leb moment t.moment)) [
    | inl early ↦ rw early absent
    | inr late ↦ rw late (record { greets = absent_filter (λ entry. not (is_due moment entry)) id t.greeting absent.greets; opens = absent.opens })
  ]
  stays_away Joined id given absent = elim (cases_Bool (leb rules.limit (live t))) [
    | inl full ↦ rw full absent
    | inr room ↦ rw room (record {
      greets = other_with id t.next_id (record { until = t.moment + rules.wait; rest = []; part = [] }) t.greeting (λ is. absurd (omega (arith, is, given))) ∙ absent.greets;
      opens = absent.opens;
    })
  ]
  stays_away (Bytes q bytes) id given absent = heard_absent id q bytes (client_at q t.greeting) (client_at q t.opened) refl refl absent
  stays_away (Gone q) id given absent = absent_left id q absent

  -- ---- the time of a client that says nothing

  others_greet : (q id : ℕ) (next : Option (Phase × List ℕ)) → q ≢ id → client_at q (put_back id next (leaves id t)).greeting ≡ client_at q t.greeting
  others_greet q id None ne = other_without q id t.greeting ne
  others_greet q id (Some (Greeting until part, rest)) ne =
      other_with q id (record { until = until; rest = rest; part = part }) (without id t.greeting) ne ∙ other_without q id t.greeting ne
  others_greet q id (Some (Open version, rest)) ne = other_without q id t.greeting ne

  others_heard : (q id : ℕ) (bytes : List ℕ) (greeter : Option GreetingClient) (opener : Option OpenClient) → q ≢ id
      → client_at q (hears_client rules id bytes t greeter opener).table.greeting ≡ client_at q t.greeting
  others_heard q id bytes (Some client) opener ne = others_greet q id _ ne
  others_heard q id bytes None (Some client) ne = others_greet q id _ ne
  others_heard q id bytes None None ne = refl

kept_filter : (test : ℕ × GreetingClient → Bool) (q : ℕ) (client : GreetingClient) (es : List (ℕ × GreetingClient)) → client_at q es ≡ Some client → test (q, client) ≡ true
    → client_at q (filter test es) ≡ Some client
kept_filter test q client [] found passes = absurd (nothing_is client found)
kept_filter test q client (e ∷ es) found passes = elim (compared q e.0) [
  | inl (same, equal) ↦
      let here : Some e.1 ≡ Some client = ap (λ (o : Ordering). cond (is_eq o) (Some e.1) (client_at q es)) (sym equal) ∙ found in
      let is : e.1 ≡ client = cc in
      let it : test e ≡ true = ap test (ap (λ (n : ℕ). (n, e.1)) (sym same) ∙ ap (λ (c : GreetingClient). (q, c)) is) ∙ passes in
      rw it (rw equal (ap (λ (c : GreetingClient). Some c) is))
  | inr other ↦
      let later : client_at q es ≡ Some client = ap (λ (b : Bool). cond b (Some e.1) (client_at q es)) (sym other) ∙ found in
      let on = kept_filter test q client es later passes in
      elim (cases_Bool (test e)) [
        | inl stays ↦ rw stays (rw other on)
        | inr goes ↦ rw goes on
      ]
]

-- whoever doesn't pass is gone
gone_filter : (test : ℕ × GreetingClient → Bool) (q : ℕ) (client : GreetingClient) (es : List (ℕ × GreetingClient)) → IdsRise es → client_at q es ≡ Some client → test (q, client) ≡ false
    → client_at q (filter test es) ≡ None
gone_filter test q client [] rise found fails = absurd (nothing_is client found)
gone_filter test q client (e ∷ es) rise found fails = elim (compared q e.0) [
  | inl (same, equal) ↦
      let here : Some e.1 ≡ Some client = ap (λ (o : Ordering). cond (is_eq o) (Some e.1) (client_at q es)) (sym equal) ∙ found in
      let is : e.1 ≡ client = cc in
      let it : test e ≡ false = ap test (ap (λ (n : ℕ). (n, e.1)) (sym same) ∙ ap (λ (c : GreetingClient). (q, c)) is) ∙ fails in
      let others : client_at q es ≡ None = rw equal at (gone_without q (e ∷ es) rise) in
      rw it (absent_filter test q es others)
  | inr other ↦
      let later : client_at q es ≡ Some client = ap (λ (b : Bool). cond b (Some e.1) (client_at q es)) (sym other) ∙ found in
      let on = gone_filter test q client es rise.1 later fails in
      elim (cases_Bool (test e)) [
        | inl stays ↦ rw stays (rw other on)
        | inr goes ↦ rw goes on
      ]
]

-- it is told
has_closed : (moment q : ℕ) (client : GreetingClient) (es : List (ℕ × GreetingClient)) → client_at q es ≡ Some client → client.until ≤ moment
    → Has (action.Close q (Fault HandshakeWait)) (map waited_too_long (filter (is_due moment) es))
has_closed moment q client [] found late = absurd (nothing_is client found)
has_closed moment q client (e ∷ es) found late = elim (compared q e.0) [
  | inl (same, equal) ↦
      let here : Some e.1 ≡ Some client = ap (λ (o : Ordering). cond (is_eq o) (Some e.1) (client_at q es)) (sym equal) ∙ found in
      let is : e.1 ≡ client = cc in
      let due : leb e.1.until moment ≡ true = le-leb e.1.until moment (omega (arith, ap (λ (c : GreetingClient). c.until) is, late)) in
      rw due (record {
        before = [];
        after = map waited_too_long (filter (is_due moment) es);
        are = ap (λ (n : ℕ). action.Close n (Fault HandshakeWait) ∷ map waited_too_long (filter (is_due moment) es)) (sym same);
      })
  | inr other ↦
      let later : client_at q es ≡ Some client = ap (λ (b : Bool). cond b (Some e.1) (client_at q es)) (sym other) ∙ found in
      let has = has_closed moment q client es later late in
      elim (cases_Bool (leb e.1.until moment)) [
        | inl due ↦ rw due (record { before = waited_too_long e ∷ has.before; after = has.after; are = ap (λ (l : List ClientAction). waited_too_long e ∷ l) has.are })
        | inr early ↦ rw early has
      ]
]

module _ (rules : ClientRules) (t : ClientTable) (greeters : IdsRise t.greeting) (openers : IdsRise t.opened) (given : (q : ℕ) (client : GreetingClient) → client_at q t.greeting ≡ Some client → q < t.next_id) where
  begins_time : live t < rules.limit → client_at t.next_id (stepped rules Joined t).table.greeting ≡ Some (record { until = t.moment + rules.wait; rest = []; part = [] })
  begins_time room = rw (lt-leb rules.limit (live t) room) (here_with t.next_id (record { until = t.moment + rules.wait; rest = []; part = [] }) t.greeting)

  waits_on : (event : ClientEvent) (id : ℕ) (client : GreetingClient) → client_at id t.greeting ≡ Some client → IsSilent id client event → client_at id (stepped rules event t).table.greeting ≡ Some client
  waits_on (Now moment) id client found early = elim (cases_Bool (leb moment t.moment)) [
    | inl before ↦ rw before found
    | inr after ↦ rw after (kept_filter (λ entry. not (is_due moment entry)) id client t.greeting found (rw (lt-leb client.until moment early) refl))
  ]
  waits_on Joined id client found silent = elim (cases_Bool (leb rules.limit (live t))) [
    | inl full ↦ rw full found
    | inr room ↦ rw room (other_with id t.next_id (record { until = t.moment + rules.wait; rest = []; part = [] }) t.greeting (λ is. absurd (omega (arith, is, given id client found))) ∙ found)
  ]
  waits_on (Bytes other bytes) id client found silent =
      others_heard rules t greeters openers id other bytes (client_at other t.greeting) (client_at other t.opened) (λ is. silent (sym is)) ∙ found
  waits_on (Gone other) id client found silent = other_without id other t.greeting (λ is. silent (sym is)) ∙ found

  closes_in_time : (moment id : ℕ) (client : GreetingClient) → client_at id t.greeting ≡ Some client → t.moment < moment → client.until ≤ moment → ClosesInTime stepped rules id moment t
  closes_in_time moment id client found after late =
      let now : leb moment t.moment ≡ false = lt-leb moment t.moment after in
      let due : leb client.until moment ≡ true = le-leb client.until moment late in
      record {
        gone = rw now (gone_filter (λ entry. not (is_due moment entry)) id client t.greeting greeters found (rw due refl));
        told = subst (Has (action.Close id (Fault HandshakeWait))) (rw now refl) (has_closed moment id client t.greeting found late);
      }

  pub keeps_time : KeepsTime stepped rules t
  keeps_time = record { begins = begins_time; waits = waits_on; closes = closes_in_time }

-- ---- a proposal that fits

yes_own : (version : ℕ) → (eqb 32784 version ≡ true) ⊎ ((eqb 32785 version ≡ true) ⊎ ((eqb 32784 version ≡ false) × (eqb 32785 version ≡ false)))
yes_own version = elim (cases_Bool (eqb 32784 version)) [
  | inl first ↦ inl first
  | inr not_first ↦ elim (cases_Bool (eqb 32785 version)) [
    | inl second ↦ inr (inl second)
    | inr not_second ↦ inr (inr (not_first, not_second))
  ]
]

module _ (magic : ℕ) (table : List Offer) (version : ℕ) (fits : Fits magic table version) where
  by_info : decides_info magic version (Known fits.theirs) ≡ Agreed version
  by_info = rw (eq-eqb magic fits.theirs.magic fits.network, fits.offers) refl

  fits_decides : decision_of magic table ≡ Agreed version
  fits_decides = elim (yes_own version) [
    | inl first ↦ low (eqb-true 32784 version first)
    | inr (inl second) ↦ high (eqb-true 32785 version second)
    | inr (inr (a, b)) ↦ absurd (none (rw (a, b) at fits.own))
  ]
    where
      none : false ≡ true → ⊥
      none e = cc

      high : 32785 ≡ version → decision_of magic table ≡ Agreed version
      high is =
          let there = ap (λ (v : ℕ). offer_of v table) is ∙ fits.offered in
          rw there by_info

      low : 32784 ≡ version → decision_of magic table ≡ Agreed version
      low is =
          let above : offer_of 32785 table ≡ None = fits.greatest 32785 (omega (arith, is)) refl in
          let there = ap (λ (v : ℕ). offer_of v table) is ∙ fits.offered in
          rw (above, there) by_info

module _ (rules : ClientRules) (t : ClientTable) (id : ℕ) (client : GreetingClient) (bytes : List ℕ) (table : List Offer) (version : ℕ)
    (found : client_at id t.greeting ≡ Some client) (p : HasProposed client bytes table) (fits : Fits rules.magic table version) where
  abbrev the_context : Context
  the_context = record { client = id; magic = rules.magic; moment = t.moment }

  abbrev the_part : List ℕ
  the_part = client.part ++ p.segment.payload

  message_heard : part_heard the_context client.until the_part ≡ decided the_context [] (Agreed version)
  message_heard =
      let all : drop (length the_part) the_part ≡ [] = drop_all (length the_part) the_part (omega arith) in
      let read : client_message_of (take (length the_part) the_part) ≡ Some (message.Propose table) = ap client_message_of (take-length the_part) ∙ p.message in
      ap (first_heard the_context client.until the_part) p.whole
      ∙ ap (λ (l : List ℕ). item_heard the_context l (client_message_of (take (length the_part) the_part))) all
      ∙ ap (item_heard the_context []) read
      ∙ ap (decided the_context []) (fits_decides rules.magic table version fits)

  the_segment : segment_heard the_context (Greeting client.until client.part) p.segment ≡ decided the_context [] (Agreed version)
  unfolding segment_heard
  the_segment =
      let some : eqb (length p.segment.payload) 0 ≡ false = ne_eqb (length p.segment.payload) 0 (λ e. absurd (omega (arith, e, p.some))) in
      rw (p.handshake, p.initiator, some) message_heard

  the_stream : heard the_context (Greeting client.until client.part) (p.segment ∷ []) ≡ decided the_context [] (Agreed version)
  unfolding heard
  the_stream = ap (λ (h : Heard). then_heard h.actions h.phase (λ next. heard the_context next [])) the_segment

  the_turn : bytes_come rules id bytes t ≡ record {
    table = put_back id (Some (Open version, p.rest)) (leaves id t);
    actions = (decided the_context [] (Agreed version)).actions;
  }
  the_turn =
      ap (λ (g : Option GreetingClient). hears_client rules id bytes t g (client_at id t.opened)) found
      ∙ ap (λ c. let h = heard the_context (Greeting client.until client.part) c.segments in record { table = put_back id (option_map (λ next. (next, c.rest)) h.phase) (leaves id t); actions = h.actions }) p.cut
      ∙ ap (λ (h : Heard). record { table = put_back id (option_map (λ next. (next, p.rest)) h.phase) (leaves id t); actions = h.actions }) the_stream

  opens_with : OpensWith stepped rules id bytes version t
  opens_with = record {
    actions = ap (λ s. s.actions) the_turn;
    opens = ap (λ s. open_version id s.table) the_turn ∙ ap version_of (here_with id (record { version = version; rest = p.rest }) (without id t.opened));
  }

pub fitting_proposals_open : FittingProposalsOpen stepped
fitting_proposals_open rules t id client bytes table version found p fits = opens_with rules t id client bytes table version found p fits

-- ---- bytes that are a fault

none_has : (x : ClientAction) → Has x [] → ⊥
none_has x h = by h.before h.are
  where
    by : (before : List ClientAction) → [] ≡ before ++ x ∷ h.after → ⊥
    by [] e = cc
    by (y ∷ ys) e = cc

-- the first, or one behind it
has_first : (x y : ClientAction) (ys : List ClientAction) → Has x (y ∷ ys) → (x ≡ y) ⊎ Has x ys
has_first x y ys h = by h.before h.are
  where
    by : (before : List ClientAction) → y ∷ ys ≡ before ++ x ∷ h.after → (x ≡ y) ⊎ Has x ys
    by [] e = inl cc
    by (z ∷ zs) e = inr (record { before = zs; after = h.after; are = cc })

has_either : (x : ClientAction) (xs ys : List ClientAction) → Has x (xs ++ ys) → Has x xs ⊎ Has x ys
has_either x [] ys h = inr h
has_either x (z ∷ zs) ys h = elim (has_first x z (zs ++ ys) h) [
  | inl is ↦ inl (record { before = []; after = zs; are = ap (λ (a : ClientAction). a ∷ zs) (sym is) })
  | inr behind ↦ elim (has_either x zs ys behind) [
    | inl early ↦ inl (record { before = z ∷ early.before; after = early.after; are = ap (λ (l : List ClientAction). z ∷ l) early.are })
    | inr late ↦ inr late
  ]
]

module _ (context : Context) (other : ℕ) (kind : FaultKind) where
  abbrev Told : List ClientAction → Type 0
  Told actions = Has (action.Close other (Fault kind)) actions

  abbrev Right : Type 0 → Type 0
  Right P = (other ≡ context.client) × P

  closes_for : (k : FaultKind) (P : Type 0) → (kind ≡ k → P) → Told (action.Close context.client (Fault k) ∷ []) → Right P
  closes_for k P is told = elim (has_first _ _ [] told) [
    | inl same ↦ (cc, is cc)
    | inr none ↦ absurd (none_has _ none)
  ]

  not_for : (cause : ClientCause) → (Fault kind ≡ cause → ⊥) → Told (action.Close context.client cause ∷ []) → ⊥
  not_for cause never told = elim (has_first _ _ [] told) [
    | inl same ↦ let is : Fault kind ≡ cause = cc in never is
    | inr none ↦ none_has _ none
  ]

  of_decision : (left : List ℕ) (decision : Decision) → Told (concluded context left decision).actions → Right ((0 < length left) × (kind ≡ Protocol))
  of_decision left NoCommon told = absurd (not_for Refused (λ e. cc) told)
  of_decision left (NotUnderstood version) told = absurd (not_for Refused (λ e. cc) told)
  of_decision left (OtherMagic version) told = absurd (not_for Refused (λ e. cc) told)
  of_decision left Asked told = absurd (not_for Query (λ e. cc) told)
  of_decision left (Agreed version) told = elim (cases_Bool (eqb (length left) 0)) [
    | inl none ↦ absurd (opened (rw none at told))
    | inr some ↦ behind some (rw some at told)
  ]
    where
      opened : Told (action.Open context.client version ∷ []) → ⊥
      opened told = elim (has_first _ _ [] told) [ inl same ↦ not_open same | inr none ↦ none_has _ none ]
        where
          not_open : action.Close other (Fault kind) ≡ action.Open context.client version → ⊥
          not_open e = cc

      behind : eqb (length left) 0 ≡ false → Told (action.Open context.client version ∷ action.Close context.client (Fault Protocol) ∷ []) → Right ((0 < length left) × (kind ≡ Protocol))
      behind some_left told = elim (has_first _ _ _ told) [
        | inl same ↦ absurd (not_open same)
        | inr rest ↦ closes_for Protocol ((0 < length left) × (kind ≡ Protocol)) (λ is. (omega (arith, eqb-false (length left) 0 some_left), is)) rest
      ]
        where
          not_open : action.Close other (Fault kind) ≡ action.Open context.client version → ⊥
          not_open e = cc

  of_item : (left : List ℕ) (said : Option Message) → Told (item_heard context left said).actions → Right (IsItemFault left said kind)
  of_item left None told = closes_for Malformed (kind ≡ Malformed) (λ is. is) told
  of_item left (Some (message.Propose table)) told = elim (has_first _ _ _ told) [
    | inl same ↦ absurd (not_sent _ same)
    | inr rest ↦ of_decision left (decision_of context.magic table) rest
  ]
    where
      not_sent : (bytes : List ℕ) → action.Close other (Fault kind) ≡ action.Send context.client bytes → ⊥
      not_sent bytes e = cc
  of_item left (Some (message.Accept version info)) told = closes_for Protocol (kind ≡ Protocol) (λ is. is) told
  of_item left (Some (message.Refuse reason)) told = closes_for Protocol (kind ≡ Protocol) (λ is. is) told
  of_item left (Some (message.QueryReply table)) told = closes_for Protocol (kind ≡ Protocol) (λ is. is) told

  of_scan : (until : ℕ) (part : List ℕ) (next : Result (Option ℕ) CutFault) → next_of (scan_of part) handshake_limit part ≡ next → Told (first_heard context until part next).actions
      → Right (IsScanFault part kind ⊎ HasItemFault part kind)
  of_scan until part (Ok None) is told = absurd (none_has _ told)
  of_scan until part (Ok (Some n)) is told =
      let item = of_item (drop n part) (client_message_of (take n part)) told in
      (item.0, inr (record { size = n; scanned = is; fault = item.1 }))
  of_scan until part (Err fault) is told =
      closes_for (kind_of fault) (IsScanFault part kind ⊎ HasItemFault part kind) (λ k. inl (record { fault = fault; scanned = is; kind-is = k })) told

  of_payload : (phase : Phase) (id : ℕ) (payload : List ℕ) → Told (payload_heard context phase id payload).actions → Right (IsPayloadFault phase id payload kind)
  of_payload (Greeting until part) id payload told = elim (cases_Bool (eqb id 0)) [
    | inl handshake ↦
        let scanned = of_scan until (part ++ payload) (next_of (scan_of (part ++ payload)) handshake_limit (part ++ payload)) refl (rw handshake at told) in
        (scanned.0, inr (eqb-true id 0 handshake, scanned.1))
    | inr aside ↦ closes_for Protocol _ (λ is. inl (eqb-false id 0 aside, is)) (rw aside at told)
  ]
  of_payload (Open version) id payload told = elim (cases_Bool (eqb id 0)) [
    | inl handshake ↦ closes_for Protocol _ (λ is. (eqb-true id 0 handshake, is)) (rw handshake at told)
    | inr aside ↦ absurd (none_has _ (rw aside at told))
  ]

  of_segment : (phase : Phase) (s : Segment) → Told (segment_heard context phase s).actions → Right (IsSegmentFault phase s kind)
  unfolding segment_heard
  of_segment phase s told = elim (cases_Bool (is_client_protocol s.header.id)) [
    | inr unknown ↦ closes_for UnknownId _ (λ is. inl (unknown, is)) (rw unknown at told)
    | inl known ↦ elim (cases_Bool (eqb s.header.side 1)) [
      | inl responder ↦ closes_for Protocol _ (λ is. inr (inl (eqb-true s.header.side 1 responder, is))) (rw (known, responder) at told)
      | inr initiator ↦ elim (cases_Bool (eqb (length s.payload) 0)) [
        | inl none ↦ absurd (none_has _ (rw (known, initiator, none) at told))
        | inr some ↦
            let payload = of_payload phase s.header.id s.payload (rw (known, initiator, some) at told) in
            (payload.0, inr (inr (omega (arith, eqb-false (length s.payload) 0 some), payload.1)))
      ]
    ]
  ]

  of_then : (phase : Phase) (s : Segment) (segments : List Segment) (next : Option Phase) (actions : List ClientAction) → segment_heard context phase s ≡ record { actions = actions; phase = next }
      → ((p : Phase) → Told (heard context p segments).actions → Right (AreAtFault context p segments kind)) → Told (then_heard actions next (λ p. heard context p segments)).actions
      → Right (AreAtFault context phase (s ∷ segments) kind)
  unfolding heard
  of_then phase s segments None actions is later told =
      let fault = of_segment phase s (subst Told (ap (λ (h : Heard). h.actions) (sym is)) told) in
      (fault.0, record { before = []; segment = s; after = segments; so_far = phase; are = refl; comes = refl; fault = fault.1 })
  of_then phase s segments (Some next) actions is later told = elim (has_either _ actions (heard context next segments).actions told) [
    | inl now ↦
        let fault = of_segment phase s (subst Told (ap (λ (h : Heard). h.actions) (sym is)) now) in
        (fault.0, record { before = []; segment = s; after = segments; so_far = phase; are = refl; comes = refl; fault = fault.1 })
    | inr then ↦
        let fault = later next then in (
          fault.0,
          record {
            before = s ∷ fault.1.before;
            segment = fault.1.segment;
            after = fault.1.after;
            so_far = fault.1.so_far;
            are = ap (λ (l : List Segment). s ∷ l) fault.1.are;
            comes = ap (λ (h : Heard). (then_heard h.actions h.phase (λ p. heard context p fault.1.before)).phase) is ∙ fault.1.comes;
            fault = fault.1.fault;
          },
        )
  ]

  of_stream : (segments : List Segment) (phase : Phase) → Told (heard context phase segments).actions → Right (AreAtFault context phase segments kind)
  unfolding heard
  of_stream [] phase told = absurd (none_has _ told)
  of_stream (s ∷ segments) phase told =
      of_then phase s segments (segment_heard context phase s).phase (segment_heard context phase s).actions refl (of_stream segments) told

by_client : (rules : ClientRules) (t : ClientTable) (id : ℕ) (bytes : List ℕ) (other : ℕ) (kind : FaultKind) (greeter : Option GreetingClient) (opener : Option OpenClient)
    → Has (action.Close other (Fault kind)) (hears_client rules id bytes t greeter opener).actions
    → (other ≡ id) × AreFaultOf (record { client = id; magic = rules.magic; moment = t.moment }) bytes kind greeter opener
by_client rules t id bytes other kind (Some client) opener told =
    of_stream (record { client = id; magic = rules.magic; moment = t.moment }) other kind (cut_of (client.rest ++ bytes)).segments (Greeting client.until client.part) told
by_client rules t id bytes other kind None (Some client) told =
    of_stream (record { client = id; magic = rules.magic; moment = t.moment }) other kind (cut_of (client.rest ++ bytes)).segments (Open client.version) told
by_client rules t id bytes other kind None None told = absurd (none_has _ told)

pub faults_are_of_bytes : FaultsAreOfBytes stepped
faults_are_of_bytes rules t id bytes other kind told =
    let fault = by_client rules t id bytes other kind (client_at id t.greeting) (client_at id t.opened) told in
    record { own = fault.0; fault = fault.1 }
