-- What an open client says that is passed over changes nothing.
use Rattle.std.proofs.Common.{◌≡◌, ℕ, eqb, List, [], ◌∷◌, ◌++◌, length, ◌<◌, false, IsTrue, nat_eq, Option, Some, None, refl, sym, ap, ◌∙◌, arith, inl, inr}
use Rattle.std.specs.Option.{option_map}
use Rattle.std.proofs.lemmas.Bool.{cases_Bool, eqb-true}
use Rattle.mux_segment.specs.Segment.{Segment, segment_at, Cut, cut_of}
use Rattle.mux_segment.proofs.Cuts.{front_of, cut_none, cut_some}
use Rattle.net_base.specs.declared.action.FaultKind.{FaultKind}
use Rattle.local_clients.specs.declared.client.GreetingClient.{GreetingClient}
use Rattle.local_clients.specs.declared.client.OpenClient.{OpenClient}
use Rattle.local_clients.specs.declared.context.Context.{Context}
use Rattle.local_clients.specs.declared.phase.Phase.TheVariants.{Open}
use Rattle.local_clients.specs.declared.rules.ClientRules.{ClientRules}
use Rattle.local_clients.specs.Hearing.{Heard, goes_on, header_fault, heard_unless, segment_heard, then_heard, heard}
use Rattle.local_clients.specs.Clients.{ClientTable, Stepped, client_at, without, with_client, leaves, put_back, hears, hears_client, nothing_done, bytes_come}
use Rattle.local_clients.specs.Kept.{IdsRise, AreApart}
use Rattle.local_clients.proofs.Ids.{without_absent, back_again}
use Rattle.local_clients.proofs.Streams.{heard_turn, heard_end}

pub segment_passes : (context : Context) (version : ℕ) (s : Segment) → header_fault s.header ≡ None → nat_eq s.header.id 0 ≡ false
    → segment_heard context (Open version) s ≡ goes_on (Open version)
unfolding segment_heard
segment_passes context version s none other =
    ap (λ (f : Option FaultKind). heard_unless f context (Open version) s.header.id s.payload) none
    ∙ elim (cases_Bool (eqb (length s.payload) 0)) [
      | inl empty ↦ rw empty refl
      | inr some ↦ rw (some, other) refl
    ]

-- whatever the client's version, the bytes come to what the rest comes to
pub record PassesTo (bytes rest : List ℕ) : Type 0 where
  pub heard-is : (context : Context) (version : ℕ) → heard context (Open version) (cut_of bytes).segments ≡ heard context (Open version) (cut_of rest).segments
  pub rest-is : (cut_of bytes).rest ≡ (cut_of rest).rest

pub passes_on : (bytes rest : List ℕ) (s : Segment) (after : List ℕ) → segment_at rest ≡ Some (s, after)
    → ((context : Context) (version : ℕ) → segment_heard context (Open version) s ≡ goes_on (Open version)) → PassesTo bytes rest → PassesTo bytes after
passes_on bytes rest s after some passes so_far =
    let cut = cut_some rest s after some in
    record {
      heard-is = λ context version.
          so_far.heard-is context version
          ∙ ap (λ (c : Cut). heard context (Open version) c.segments) cut
          ∙ heard_turn context (Open version) s (cut_of after).segments
          ∙ ap (λ (h : Heard). then_heard h.actions h.phase (λ next. heard context next (cut_of after).segments)) (passes context version);
      rest-is = so_far.rest-is ∙ ap (λ (c : Cut). c.rest) cut;
    }

pub passes_smaller : (rest : List ℕ) (s : Segment) (after : List ℕ) → segment_at rest ≡ Some (s, after) → length after < length rest
passes_smaller rest s after some = let f = front_of rest s after some in omega (arith, f.long)

pub none_left : (bytes : List ℕ) → IsTrue (nat_eq (length bytes) 0) → bytes ≡ []
none_left [] empty = refl
none_left (byte ∷ bytes) empty = absurd (omega (arith, eqb-true (length (byte ∷ bytes)) 0 empty))

pub passes_whole : (bytes rest : List ℕ) → segment_at rest ≡ None → PassesTo bytes rest → (context : Context) (version : ℕ)
    → heard context (Open version) (cut_of bytes).segments ≡ goes_on (Open version)
passes_whole bytes rest none so_far context version =
    so_far.heard-is context version ∙ ap (λ (c : Cut). heard context (Open version) c.segments) (cut_none rest none) ∙ heard_end context (Open version)

pub passes_rest : (bytes rest : List ℕ) → segment_at rest ≡ None → PassesTo bytes rest → (cut_of bytes).rest ≡ rest
passes_rest bytes rest none so_far = so_far.rest-is ∙ ap (λ (c : Cut). c.rest) (cut_none rest none)

abbrev table_with : ClientTable → List (ℕ × GreetingClient) → List (ℕ × OpenClient) → ClientTable
table_with t greeting opened = record { moment = t.moment; next_id = t.next_id; greeting = greeting; opened = opened }

-- a client is put back as far as it came
abbrev come : ℕ → List ℕ → ClientTable → Heard → Stepped
come id rest t h = record { table = put_back id (option_map (λ next. (next, rest)) h.phase) t; actions = h.actions }

pub nothing_comes : (rules : ClientRules) (id : ℕ) (bytes : List ℕ) (t : ClientTable) (client : OpenClient) → client_at id t.opened ≡ Some client → client.rest ≡ []
    → IdsRise t.opened → AreApart t → ((context : Context) (version : ℕ) → heard context (Open version) (cut_of bytes).segments ≡ goes_on (Open version))
    → (cut_of bytes).rest ≡ [] → bytes_come rules id bytes t ≡ nothing_done t
nothing_comes rules id bytes t client found empty rise apart passes whole =
    let absent : client_at id t.greeting ≡ None = apart id client found in
    let context : Context = record { client = id; magic = rules.magic; moment = t.moment } in
    let back : List ℕ → ClientTable = λ rest. put_back id (Some (Open client.version, rest)) (leaves id t) in
    let unchanged : back client.rest ≡ t =
    ap (λ (g : List (ℕ × GreetingClient)). table_with t g (with_client id client (without id t.opened))) (without_absent id t.greeting absent)
    ∙ ap (table_with t t.greeting) (back_again id client t.opened rise found) in
    ap (λ (g : Option GreetingClient). hears_client rules id bytes t g (client_at id t.opened)) absent
    ∙ ap (λ (o : Option OpenClient). hears_client rules id bytes t None o) found
    ∙ ap (λ (rest : List ℕ). hears rules id (Open client.version) (rest ++ bytes) (leaves id t)) empty
    ∙ ap (come id (cut_of bytes).rest (leaves id t)) (passes context client.version)
    ∙ ap (λ (rest : List ℕ). nothing_done (back rest)) (whole ∙ sym empty)
    ∙ ap nothing_done unchanged
