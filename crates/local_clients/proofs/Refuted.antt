-- Events at which wrong machines of clients break a law.
use Rattle.std.proofs.Common.{◌≡◌, ℕ, ◌≤◌, eqb, false, true, List, [], ◌∷◌, ◌++◌, Option, Some, None, refl, sym, ap, subst, ◌∙◌, arith, inl, inr, lit<, lit≤}
use Rattle.std.specs.Prelude.{◌==◌}
use Rattle.std.specs.List.{list_any}
use Rattle.std.proofs.lemmas.Bool.{cases_Bool, eqb-true}
use Rattle.cbor_items.specs.Front.{definite_at}
use Rattle.cbor_items.specs.Head.{head_at}
use Rattle.cbor_items.specs.Scan.{skip_row, skip_to_break, skip_chunk, skip_flat_content, skip_nested_content, skip_item, scan_of}
use Rattle.hs_message.specs.Reading.{definite_array_at, flag_at, bit_at, magic_at, client_version_info_at, client_known_of, offer_at, row_at, table_at, row_to_break_at, version_list_at, text_at, tag_at, noted_at, reason_at, message_at, message_with, client_message_of}
use Rattle.hs_message.specs.declared.info.VersionInfo.{VersionInfo}
use Rattle.hs_message.specs.declared.info.Info.TheVariants.{Known}
use Rattle.hs_message.specs.declared.message.Message.{Message}
use Rattle.hs_message.specs.declared.offer.Offer.{Offer}
use Rattle.mux_segment.specs.Segment.{Segment, segment_at, cut_within, cut_of}
use Rattle.net_base.specs.declared.action.FaultKind.TheVariants.{Protocol}
use Rattle.local_clients.specs.Agreement.{own_table}
use Rattle.local_clients.specs.Clients.{ClientTable, no_clients, open_version, stepped}
use Rattle.local_clients.specs.Law.{AreReached, HasProposed, Fits}
use Rattle.local_clients.specs.WrongClients.{nobody_goes, answers_least, NobodyGoes, OpensWithLeast, FaultingFirstBytesOpens, FaultingFirstBytesFaults}
use Rattle.local_clients.specs.declared.client.GreetingClient.{GreetingClient}
use Rattle.local_clients.specs.declared.event.ClientEvent.TheVariants.{Joined}
use Rattle.local_clients.specs.declared.rules.ClientRules.{ClientRules}

abbrev rules : ClientRules
rules = record { magic = 42; limit = 2; wait = 10000 }

-- one client has joined
abbrev joined : ClientTable
joined = (stepped rules Joined no_clients).table

abbrev client : GreetingClient
client = record { until = 10000; rest = []; part = [] }

pub nobody_goes_is_refused : NobodyGoes
nobody_goes_is_refused law =
    let reached : AreReached nobody_goes rules joined = record { events = Joined ∷ []; ranges = (refl, refl); few = lit≤ tt; happen = (tt, tt); leads = refl } in
    there ((law rules joined reached).0 1).gone.greets
  where
    there : ◌≡◌ {A = Option GreetingClient} (Some client) None → ⊥
    there e = absurd cc

-- ---- a proposal of 32784 and 32785 on the network 42

abbrev payload : List ℕ
payload = 130 ∷ 0 ∷ 162 ∷ 25 ∷ 128 ∷ 16 ∷ 130 ∷ 24 ∷ 42 ∷ 244 ∷ 25 ∷ 128 ∷ 17 ∷ 130 ∷ 24 ∷ 42 ∷ 244 ∷ []

abbrev proposal : List ℕ
proposal = 0 ∷ 0 ∷ 0 ∷ 0 ∷ 0 ∷ 0 ∷ 0 ∷ 17 ∷ payload

abbrev theirs : VersionInfo
theirs = record { magic = 42; initiator_only = true; sharing = false; query = false }

abbrev offers : List Offer
offers = record { version = 32784; info = Known theirs } ∷ record { version = 32785; info = Known theirs } ∷ []

proposes : HasProposed client proposal offers
unfolding head_at skip_row skip_to_break skip_chunk skip_flat_content skip_nested_content skip_item scan_of segment_at cut_within cut_of definite_at definite_array_at flag_at bit_at magic_at client_version_info_at client_known_of offer_at row_at table_at row_to_break_at version_list_at text_at tag_at noted_at reason_at message_at message_with client_message_of
proposes = record {
  segment = record { header = record { time = 0; side = 0; id = 0; size = 17 }; payload = payload };
  rest = [];
  cut = refl;
  handshake = refl;
  initiator = refl;
  some = lit< tt;
  whole = refl;
  message = refl;
}

at_most : (version : ℕ) → list_any (λ offer. offer.version == version) (own_table 42) ≡ true → version ≤ 32785
at_most version takes = elim (cases_Bool (eqb 32784 version)) [
  | inl low ↦ omega (arith, eqb-true 32784 version low)
  | inr not_low ↦ elim (cases_Bool (eqb 32785 version)) [
    | inl high ↦ omega (arith, eqb-true 32785 version high)
    | inr not_high ↦ absurd (none not_low not_high)
  ]
]
  where
    none : eqb 32784 version ≡ false → eqb 32785 version ≡ false → ⊥
    none a b = absurd (false_true (sym (rw (a, b) refl) ∙ takes))
      where
        false_true : false ≡ true → ⊥
        false_true e = cc

fits : Fits 42 offers 32785
fits = record {
  theirs = theirs;
  own = refl;
  offered = refl;
  network = refl;
  offers = refl;
  greatest = λ greater above takes. absurd (omega (arith, above, at_most greater takes));
}

pub least_is_refused : OpensWithLeast
unfolding proposes
least_is_refused law =
    let opened = law rules joined 1 client proposal offers 32785 refl proposes fits in
    low (subst (λ (m : Option Message). open_version 1 (answers_least rules 1 proposal joined m).table ≡ Some 32785) proposes.message opened.opens)
  where
    number : Option ℕ → ℕ
    number None = 0
    number (Some n) = n

    low : ◌≡◌ {A = Option ℕ} (Some 32784) (Some 32785) → ⊥
    low e = let same : ◌≡◌ {A = ℕ} 32784 32785 = ap number e in omega (arith, same)

pub faulting_opens_is_refused : FaultingFirstBytesOpens
faulting_opens_is_refused law =
    let opened = law rules joined 1 client proposal offers 32785 refl proposes fits in
    none opened.opens
  where
    none : ◌≡◌ {A = Option ℕ} None (Some 32785) → ⊥
    none e = absurd cc

-- ---- one byte, which is no segment

one_byte : (cut_of (0 ∷ [])).segments ≡ []
unfolding cut_of cut_within segment_at
one_byte = refl

pub faulting_faults_is_refused : FaultingFirstBytesFaults
faulting_faults_is_refused law =
    let at = (law rules joined 1 (0 ∷ []) 1 Protocol (record { before = []; after = []; are = refl })).fault in
    none at.before at.segment at.after (sym one_byte ∙ at.are)
  where
    none : (before : List Segment) (s : Segment) (after : List Segment) → [] ≡ before ++ s ∷ after → ⊥
    none [] s after e = absurd cc
    none (first ∷ before) s after e = absurd cc
