-- What stands of the clients stands after each event.
use Rattle.std.proofs.Common.{◌≡◌, ℕ, ◌+◌, ◌^◌, ◌≤◌, ◌<◌, Bool, true, false, cond, eqb, leb, not, List, [], ◌∷◌, ◌++◌, length, take, drop, Option, Some, None, Result, Ok, Err, refl, sym, ap, subst, ◌∙◌, arith, inl, inr}
use Rattle.std.specs.Prelude.{filter}
use Rattle.std.specs.List.{AllByRecursion}
use Rattle.std.specs.Option.{option_map}
use Rattle.std.specs.declared.cmp.Ordering.{Ordering}
use Rattle.std.specs.Ordering.{nat_cmp, is_eq}
use Rattle.std.proofs.lemmas.Bool.{cases_Bool, eqb-true, eqb-false, le-leb, lt-leb, leb-false}
use Rattle.cbor_items.specs.Scan.{scan_of}
use Rattle.mux_segment.specs.declared.fault.CutFault.{CutFault}
use Rattle.mux_segment.specs.Segment.{Segment, cut_of}
use Rattle.mux_segment.specs.Steps.{next_of}
use Rattle.hs_message.specs.Reading.{client_message_of}
use Rattle.hs_message.specs.declared.message.Message.{Message}
use Rattle.hs_message.specs.declared.message.Message.TheVariants as message
use Rattle.net_base.specs.declared.action.FaultKind.{FaultKind}
use Rattle.local_clients.specs.declared.action.ClientAction.{ClientAction}
use Rattle.local_clients.specs.declared.context.Context.{Context}
use Rattle.local_clients.specs.declared.decision.Decision.{Decision}
use Rattle.local_clients.specs.declared.decision.Decision.TheVariants.{NoCommon, NotUnderstood, OtherMagic, Asked, Agreed}
use Rattle.local_clients.specs.declared.client.GreetingClient.{GreetingClient}
use Rattle.local_clients.specs.declared.client.OpenClient.{OpenClient}
use Rattle.local_clients.specs.declared.event.ClientEvent.{ClientEvent}
use Rattle.local_clients.specs.declared.event.ClientEvent.TheVariants.{Now, Joined, Bytes, Gone}
use Rattle.local_clients.specs.declared.phase.Phase.{Phase}
use Rattle.local_clients.specs.declared.phase.Phase.TheVariants.{Greeting, Open}
use Rattle.local_clients.specs.Rules.{CanHappen}
use Rattle.local_clients.specs.Agreement.{decision_of}
use Rattle.local_clients.specs.Hearing.{Heard, decided, item_heard, handshake_limit, first_heard, header_fault, payload_heard, heard_unless, segment_heard, then_heard, heard}
use Rattle.local_clients.specs.Clients.{ClientTable, ClientsState, live, client_at, without, with_client, is_due, clock_shows, admitted, joins, leaves, put_back, hears_client, stepped}
use Rattle.local_clients.specs.Kept.{IdsRise, IsLater, RiseInTime, IsFirstInTime, IsGiven, AreApart, AreKept}
use Rattle.local_clients.proofs.Lists.{below, above, compared, all_without, all_with, all_filter, all_to, all_found, fewer_without, one_fewer, one_more, fewer_filter}
use Rattle.local_clients.proofs.Ids.{gone_without, other_without, other_with, absent_filter, ids_without, ids_with}

-- ---- the order in time

rise_without : (id : ℕ) (es : List (ℕ × GreetingClient)) → RiseInTime es → RiseInTime (without id es)
rise_without id [] rise = tt
rise_without id (e ∷ es) rise =
    elim (cases_Bool (is_eq (nat_cmp id e.0))) [
      | inl at ↦ rw at rise.1
      | inr not_at ↦ rw not_at (all_without (IsLater e) id es rise.0, rise_without id es rise.1)
    ]

rise_filter : (test : ℕ × GreetingClient → Bool) (es : List (ℕ × GreetingClient)) → RiseInTime es → RiseInTime (filter test es)
rise_filter test [] rise = tt
rise_filter test (e ∷ es) rise =
    elim (cases_Bool (test e)) [
      | inl passes ↦ rw passes (all_filter (IsLater e) test es rise.0, rise_filter test es rise.1)
      | inr fails ↦ rw fails (rise_filter test es rise.1)
    ]

-- one that joins last
rise_last : (id : ℕ) (x : GreetingClient) (es : List (ℕ × GreetingClient)) → AllByRecursion (λ e. IsLater e (id, x)) es → RiseInTime es → RiseInTime (with_client id x es)
rise_last id x [] last rise = (tt, tt)
rise_last id x (e ∷ es) last rise =
    rw (above id e.0 last.0.0) (all_with (IsLater e) id x es rise.0 last.0, rise_last id x es last.1 rise.1)

-- all joined later
before_all : (id : ℕ) (x : GreetingClient) (es : List (ℕ × GreetingClient)) → AllByRecursion (IsLater (id, x)) es → with_client id x es ≡ (id, x) ∷ es
before_all id x [] all = refl
before_all id x (e ∷ es) all = rw (below id e.0 all.0.0) refl

-- one that is put back in its place
rise_back : (id : ℕ) (old x : GreetingClient) (es : List (ℕ × GreetingClient)) → client_at id es ≡ Some old → x.until ≡ old.until → RiseInTime es
    → RiseInTime (with_client id x (without id es))
rise_back id old x [] found same rise = absurd cc
rise_back id old x (e ∷ es) found same rise =
    elim (compared id e.0) [
      | inl (is, equal) ↦
          let here : Some e.1 ≡ Some old = ap (λ (o : Ordering). cond (is_eq o) (Some e.1) (client_at id es)) (sym equal) ∙ found in
          let client : e.1 ≡ old = cc in
          let until : x.until ≡ e.1.until = same ∙ ap (λ (g : GreetingClient). g.until) (sym client) in
          let later : AllByRecursion (IsLater (id, x)) es =
          all_to (IsLater e) (IsLater (id, x)) es (λ l lt. (omega (arith, is, lt.0), omega (arith, until, lt.1))) rise.0 in
          rw equal (subst RiseInTime (sym (before_all id x es later)) (later, rise.1))
      | inr other ↦
          let later : client_at id es ≡ Some old = ap (λ (b : Bool). cond b (Some e.1) (client_at id es)) (sym other) ∙ found in
          let between = all_found (IsLater e) id old es rise.0 later in
          let after : IsLater e (id, x) = (between.0, omega (arith, same, between.1)) in
          rw (other, above id e.0 between.0)
          (all_with (IsLater e) id x (without id es) (all_without (IsLater e) id es rise.0) after, rise_back id old x es later same rise.1)
    ]

-- ---- closing those whose time is over

abbrev closed_of : ℕ → List (ℕ × GreetingClient) → List (ℕ × GreetingClient)
closed_of now es = filter (is_due now) es

abbrev left_of : ℕ → List (ℕ × GreetingClient) → List (ℕ × GreetingClient)
left_of now es = filter (λ entry. not (is_due now entry)) es

pub late_goes : (now id : ℕ) (client : GreetingClient) (es : List (ℕ × GreetingClient)) → client.until ≤ now
    → (closed_of now ((id, client) ∷ es) ≡ (id, client) ∷ closed_of now es) × (left_of now ((id, client) ∷ es) ≡ left_of now es)
late_goes now id client es late = let due : leb client.until now ≡ true = le-leb client.until now late in (rw due refl, rw due refl)

none_late : (now until : ℕ) (es : List (ℕ × GreetingClient)) → now < until → AllByRecursion (λ e. until ≤ e.1.until) es → (closed_of now es ≡ []) × (left_of now es ≡ es)
none_late now until [] early all = (refl, refl)
none_late now until (e ∷ es) early all =
    let due : leb e.1.until now ≡ false = lt-leb e.1.until now (omega (arith, all.0)) in
    let others = none_late now until es early all.1 in
    (rw due others.0, rw due (ap (λ (l : List (ℕ × GreetingClient)). e ∷ l) others.1))

pub none_is_late : (now : ℕ) (es : List (ℕ × GreetingClient)) → IsFirstInTime now es → RiseInTime es → (closed_of now es ≡ []) × (left_of now es ≡ es)
none_is_late now [] early rise = (refl, refl)
none_is_late now (e ∷ es) early rise =
    none_late now e.1.until (e ∷ es) early (omega arith, all_to (IsLater e) (λ l. e.1.until ≤ l.1.until) es (λ l later. later.1) rise.0)

pub ids_of_time : (es : List (ℕ × GreetingClient)) → RiseInTime es → IdsRise es
ids_of_time [] rise = tt
ids_of_time (e ∷ es) rise = (all_to (IsLater e) (λ l. e.0 < l.0) es (λ l later. later.0) rise.0, ids_of_time es rise.1)

-- ---- how a client comes on: its time stays while it greets, and its version once it is open

abbrev Follows : Phase → Phase → Type 0
Follows (Greeting until part) (Greeting later more) = later ≡ until
Follows (Greeting until part) (Open version) = Unit {0}
Follows (Open version) (Greeting until part) = ⊥
Follows (Open version) (Open next) = next ≡ version

abbrev MayFollow : Phase → Option Phase → Type 0
MayFollow phase None = Unit {0}
MayFollow phase (Some next) = Follows phase next

follows_itself : (phase : Phase) → Follows phase phase
follows_itself (Greeting until part) = refl
follows_itself (Open version) = refl

follows_on : (one two : Phase) (three : Option Phase) → Follows one two → MayFollow two three → MayFollow one three
follows_on one two None first second = tt
follows_on (Greeting until part) (Greeting later more) (Some (Greeting latest all)) first second = second ∙ first
follows_on (Greeting until part) two (Some (Open version)) first second = tt
follows_on (Greeting until part) (Open version) (Some (Greeting later more)) first second = absurd second
follows_on (Open version) (Greeting until part) (Some three) first second = absurd first
follows_on (Open version) (Open next) (Some (Greeting until part)) first second = absurd second
follows_on (Open version) (Open next) (Some (Open last)) first second = second ∙ first

abbrev ComesOn : Phase → Heard → Type 0
ComesOn phase h = MayFollow phase h.phase

module _ (context : Context) where
  opens_comes_on : (until : ℕ) (part left : List ℕ) (decision : Decision) → ComesOn (Greeting until part) (decided context left decision)
  opens_comes_on until part left NoCommon = tt
  opens_comes_on until part left (NotUnderstood version) = tt
  opens_comes_on until part left (OtherMagic version) = tt
  opens_comes_on until part left Asked = tt
  opens_comes_on until part left (Agreed version) =
      elim (cases_Bool (eqb (length left) 0)) [
        | inl none ↦ rw none tt
        | inr some ↦ rw some tt
      ]

  item_comes_on : (until : ℕ) (part left : List ℕ) (m : Option Message) → ComesOn (Greeting until part) (item_heard context left m)
  item_comes_on until part left None = tt
  item_comes_on until part left (Some (message.Propose table)) = opens_comes_on until part left (decision_of context.magic table)
  item_comes_on until part left (Some (message.Accept version info)) = tt
  item_comes_on until part left (Some (message.Refuse reason)) = tt
  item_comes_on until part left (Some (message.QueryReply table)) = tt

  first_comes_on : (until : ℕ) (old part : List ℕ) (next : Result (Option ℕ) CutFault) → ComesOn (Greeting until old) (first_heard context until part next)
  first_comes_on until old part (Ok None) = refl
  first_comes_on until old part (Ok (Some n)) = item_comes_on until old (drop n part) (client_message_of (take n part))
  first_comes_on until old part (Err fault) = tt

  payload_comes_on : (phase : Phase) (id : ℕ) (payload : List ℕ) → ComesOn phase (payload_heard context phase id payload)
  payload_comes_on (Greeting until part) id payload =
      elim (cases_Bool (eqb id 0)) [
        | inl handshake ↦ rw handshake (first_comes_on until part (part ++ payload) (next_of (scan_of (part ++ payload)) handshake_limit (part ++ payload)))
        | inr other ↦ rw other tt
      ]
  payload_comes_on (Open version) id payload =
      elim (cases_Bool (eqb id 0)) [
        | inl handshake ↦ rw handshake tt
        | inr other ↦ rw other refl
      ]

  unless_comes_on : (fault : Option FaultKind) (phase : Phase) (id : ℕ) (payload : List ℕ) → ComesOn phase (heard_unless fault context phase id payload)
  unless_comes_on (Some kind) phase id payload = tt
  unless_comes_on None phase id payload =
      elim (cases_Bool (eqb (length payload) 0)) [
        | inl none ↦ rw none (follows_itself phase)
        | inr some ↦ rw some (payload_comes_on phase id payload)
      ]

  segment_comes_on : (phase : Phase) (s : Segment) → ComesOn phase (segment_heard context phase s)
  unfolding segment_heard
  segment_comes_on phase s = unless_comes_on (header_fault s.header) phase s.header.id s.payload

  then_comes_on : (phase : Phase) (actions : List ClientAction) (next : Option Phase) (others : Phase → Heard) → MayFollow phase next
      → ((p : Phase) → ComesOn p (others p)) → ComesOn phase (then_heard actions next others)
  then_comes_on phase actions None others first later = tt
  then_comes_on phase actions (Some next) others first later = follows_on phase next (others next).phase first (later next)

  pub comes_on : (segments : List Segment) (phase : Phase) → ComesOn phase (heard context phase segments)
  unfolding heard
  comes_on [] phase = follows_itself phase
  comes_on (s ∷ segments) phase =
      let first = segment_heard context phase s in
      then_comes_on phase first.actions first.phase (λ next. heard context next segments) (segment_comes_on phase s) (comes_on segments)

-- ---- each event

module _ (c : ClientsState) (few : c.taken < 1000000) (kept : AreKept c) where
  abbrev after : ClientTable → ClientsState
  after t = record { rules = c.rules; taken = c.taken + 1; table = t }

  same_kept : AreKept (after c.table)
  same_kept = record {
    ranges = kept.ranges;
    few = omega arith;
    moment = kept.moment;
    ids = omega (arith, kept.ids);
    limit = kept.limit;
    given = kept.given;
    rise = kept.rise;
    opened_given = kept.opened_given;
    opened_rise = kept.opened_rise;
    apart = kept.apart;
  }

  clock_kept : (moment : ℕ) → moment ≤ 2 ^ 48 → AreKept (after (clock_shows moment c.table).table)
  clock_kept moment fits =
      elim (cases_Bool (leb moment c.table.moment)) [
        | inl early ↦ rw early same_kept
        | inr late ↦
            let greeting = c.table.greeting in
            let stays = λ (entry : ℕ × GreetingClient). not (is_due moment entry) in
            let later : c.table.moment < moment = leb-false moment c.table.moment late in
            let t : ClientTable = record { moment = moment; next_id = c.table.next_id; greeting = filter stays greeting; opened = c.table.opened } in
            let given : AllByRecursion (IsGiven c.rules.wait t) greeting =
            all_to (IsGiven c.rules.wait c.table) (IsGiven c.rules.wait t) greeting (λ e g. (g.0, omega (arith, g.1, later))) kept.given in
            let is : AreKept (after t) = record {
              ranges = kept.ranges;
              few = omega arith;
              moment = fits;
              ids = omega (arith, kept.ids);
              limit = omega (arith, kept.limit, fewer_filter stays greeting);
              given = all_filter (IsGiven c.rules.wait t) stays greeting given;
              rise = rise_filter stays greeting kept.rise;
              opened_given = kept.opened_given;
              opened_rise = kept.opened_rise;
              apart = λ q client found. absent_filter stays q greeting (kept.apart q client found);
            } in
            rw late is
      ]

  joined_kept : AreKept (after (joins c.rules c.table).table)
  joined_kept =
      elim (cases_Bool (leb c.rules.limit (live c.table))) [
        | inl full ↦ rw full same_kept
        | inr room ↦
            let greeting = c.table.greeting in
            let id = c.table.next_id in
            let client : GreetingClient = record { until = c.table.moment + c.rules.wait; rest = []; part = [] } in
            let t = admitted c.rules.wait c.table in
            let given : AllByRecursion (IsGiven c.rules.wait t) greeting =
            all_to (IsGiven c.rules.wait c.table) (IsGiven c.rules.wait t) greeting (λ e g. (omega (arith, g.0), g.1)) kept.given in
            let is : AreKept (after t) = record {
              ranges = kept.ranges;
              few = omega arith;
              moment = kept.moment;
              ids = omega (arith, kept.ids);
              limit = omega (arith, leb-false c.rules.limit (live c.table) room, one_more id client greeting);
              given = all_with (IsGiven c.rules.wait t) id client greeting given (omega arith, omega arith);
              rise = rise_last id client greeting (all_to (IsGiven c.rules.wait c.table) (λ e. IsLater e (id, client)) greeting (λ e g. g) kept.given) kept.rise;
              opened_given = all_to (λ (e : ℕ × OpenClient). e.0 < id) (λ e. e.0 < id + 1) c.table.opened (λ e g. omega (arith, g)) kept.opened_given;
              opened_rise = kept.opened_rise;
              apart = λ q one found.
                  let given_before = all_found (λ (e : ℕ × OpenClient). e.0 < id) q one c.table.opened kept.opened_given found in
                  other_with q id client greeting (λ is. absurd (omega (arith, is, given_before))) ∙ kept.apart q one found;
            } in
            rw room is
      ]

  opened_given_without : (id : ℕ) → AllByRecursion (λ e. e.0 < c.table.next_id) (without id c.table.opened)
  opened_given_without id = all_without (λ (e : ℕ × OpenClient). e.0 < c.table.next_id) id c.table.opened kept.opened_given

  -- who was taken out is not among the others
  apart_without : (id : ℕ) → AreApart (leaves id c.table)
  apart_without id q client found =
      elim (cases_Bool (eqb q id)) [
        | inl same ↦
            let is : q ≡ id = eqb-true q id same in
            rw is (gone_without id c.table.greeting (ids_of_time c.table.greeting kept.rise))
        | inr other ↦
            let ne = eqb-false q id other in
            other_without q id c.table.greeting ne
            ∙ kept.apart q client (sym (other_without q id c.table.opened ne) ∙ found)
      ]

  left_kept : (id : ℕ) → AreKept (after (leaves id c.table))
  left_kept id = record {
    ranges = kept.ranges;
    few = omega arith;
    moment = kept.moment;
    ids = omega (arith, kept.ids);
    limit = omega (arith, kept.limit, fewer_without id c.table.greeting, fewer_without id c.table.opened);
    given = all_without (IsGiven c.rules.wait c.table) id c.table.greeting kept.given;
    rise = rise_without id c.table.greeting kept.rise;
    opened_given = opened_given_without id;
    opened_rise = ids_without id c.table.opened kept.opened_rise;
    apart = apart_without id;
  }

  opened_apart : (id : ℕ) (client : OpenClient) (q : ℕ) (one : OpenClient) → client_at q (with_client id client (without id c.table.opened)) ≡ Some one
      → client_at q (without id c.table.greeting) ≡ None
  opened_apart id client q one there =
      elim (cases_Bool (eqb q id)) [
        | inl same ↦
            let is : q ≡ id = eqb-true q id same in
            rw is (gone_without id c.table.greeting (ids_of_time c.table.greeting kept.rise))
        | inr other ↦
            let ne = eqb-false q id other in
            apart_without id q one (sym (other_with q id client (without id c.table.opened) ne) ∙ there)
      ]

  -- a client that was taken out comes on
  greeter_kept : (id : ℕ) (old : GreetingClient) (rest : List ℕ) (next : Option Phase) → client_at id c.table.greeting ≡ Some old
      → MayFollow (Greeting old.until old.part) next → AreKept (after (put_back id (option_map (λ p. (p, rest)) next) (leaves id c.table)))
  greeter_kept id old rest None found comes = left_kept id
  greeter_kept id old rest (Some (Greeting until part)) found comes =
      let greeting = c.table.greeting in
      let client : GreetingClient = record { until = until; rest = rest; part = part } in
      let was = all_found (IsGiven c.rules.wait c.table) id old greeting kept.given found in
      record {
        ranges = kept.ranges;
        few = omega arith;
        moment = kept.moment;
        ids = omega (arith, kept.ids);
        limit = omega (arith, kept.limit, one_more id client (without id greeting), one_fewer id old greeting found, fewer_without id c.table.opened);
        given = all_with (IsGiven c.rules.wait c.table) id client (without id greeting) (all_without (IsGiven c.rules.wait c.table) id greeting kept.given)
            (was.0, omega (arith, was.1, comes));
        rise = rise_back id old client greeting found comes kept.rise;
        opened_given = opened_given_without id;
        opened_rise = ids_without id c.table.opened kept.opened_rise;
        apart = λ q one there. elim (cases_Bool (eqb q id)) [
          | inl same ↦
              let is : q ≡ id = eqb-true q id same in
              let gone = gone_without id c.table.opened kept.opened_rise in
              let here : client_at id (without id c.table.opened) ≡ Some one = ap (λ (n : ℕ). client_at n (without id c.table.opened)) (sym is) ∙ there in
              absurd cc
          | inr other ↦ other_with q id client (without id greeting) (eqb-false q id other) ∙ apart_without id q one there
        ];
      }
  greeter_kept id old rest (Some (Open version)) found comes =
      let greeting = c.table.greeting in
      let opened = c.table.opened in
      let client : OpenClient = record { version = version; rest = rest } in
      record {
        ranges = kept.ranges;
        few = omega arith;
        moment = kept.moment;
        ids = omega (arith, kept.ids);
        limit = omega (arith, kept.limit, one_fewer id old greeting found, one_more id client (without id opened), fewer_without id opened);
        given = all_without (IsGiven c.rules.wait c.table) id greeting kept.given;
        rise = rise_without id greeting kept.rise;
        opened_given = all_with (λ (e : ℕ × OpenClient). e.0 < c.table.next_id) id client (without id opened) (opened_given_without id)
            (all_found (IsGiven c.rules.wait c.table) id old greeting kept.given found).0;
        opened_rise = ids_with id client (without id opened) (ids_without id opened kept.opened_rise);
        apart = opened_apart id client;
      }

  opened_kept : (id : ℕ) (old : OpenClient) (rest : List ℕ) (next : Option Phase) → client_at id c.table.opened ≡ Some old
      → MayFollow (Open old.version) next → AreKept (after (put_back id (option_map (λ p. (p, rest)) next) (leaves id c.table)))
  opened_kept id old rest None found comes = left_kept id
  opened_kept id old rest (Some (Greeting until part)) found comes = absurd comes
  opened_kept id old rest (Some (Open version)) found comes =
      let greeting = c.table.greeting in
      let opened = c.table.opened in
      let client : OpenClient = record { version = version; rest = rest } in
      record {
        ranges = kept.ranges;
        few = omega arith;
        moment = kept.moment;
        ids = omega (arith, kept.ids);
        limit = omega (arith, kept.limit, fewer_without id greeting, one_more id client (without id opened), one_fewer id old opened found);
        given = all_without (IsGiven c.rules.wait c.table) id greeting kept.given;
        rise = rise_without id greeting kept.rise;
        opened_given = all_with (λ (e : ℕ × OpenClient). e.0 < c.table.next_id) id client (without id opened) (opened_given_without id)
            (all_found (λ (e : ℕ × OpenClient). e.0 < c.table.next_id) id old opened kept.opened_given found);
        opened_rise = ids_with id client (without id opened) (ids_without id opened kept.opened_rise);
        apart = opened_apart id client;
      }

  heard_kept : (id : ℕ) (bytes : List ℕ) (greeter : Option GreetingClient) (open_one : Option OpenClient) → client_at id c.table.greeting ≡ greeter
      → client_at id c.table.opened ≡ open_one → AreKept (after (hears_client c.rules id bytes c.table greeter open_one).table)
  heard_kept id bytes (Some client) open_one found at =
      let cut = cut_of (client.rest ++ bytes) in
      let context : Context = record { client = id; magic = c.rules.magic; moment = c.table.moment } in
      let phase = Greeting client.until client.part in
      greeter_kept id client cut.rest (heard context phase cut.segments).phase found (comes_on context cut.segments phase)
  heard_kept id bytes None (Some client) none found =
      let cut = cut_of (client.rest ++ bytes) in
      let context : Context = record { client = id; magic = c.rules.magic; moment = c.table.moment } in
      let phase = Open client.version in
      opened_kept id client cut.rest (heard context phase cut.segments).phase found (comes_on context cut.segments phase)
  heard_kept id bytes None None none absent = same_kept

  pub kept_after : (event : ClientEvent) → CanHappen event → AreKept (after (stepped c.rules event c.table).table)
  kept_after (Now moment) can = clock_kept moment can
  kept_after Joined can = joined_kept
  kept_after (Bytes id bytes) can = heard_kept id bytes (client_at id c.table.greeting) (client_at id c.table.opened) refl refl
  kept_after (Gone id) can = left_kept id
