-- An end that waits for bytes of which some have come, while the others are on their way.
use Rattle.std.proofs.Common.{◌≡◌, ℕ, ◌<◌, ◌⊎◌, List, [], ◌∷◌, ◌++◌, length, take, drop, Option, Some, None, refl, sym, ap, subst, ◌∙◌, append_assoc, arith, inl, inr}
use Rattle.std.proofs.lemmas.List.{append-nil, length-drop, take-append-drop, drop_all}
use Rattle.std.proofs.lemmas.Bool.{cases_lt}
use Rattle.hs_decide.specs.declared.role.Role.{Role}
use Rattle.hs_decide.specs.declared.verdict.Verdict.{Verdict}
use Rattle.hs_message.specs.declared.info.VersionInfo.{VersionInfo}
use Rattle.hs_receive.specs.declared.received.Received.{Received}
use Rattle.hs_receive.specs.declared.received.Received.TheVariants.{Decided}
use Rattle.mux_segment.specs.Protocols.{node_limits}
use Rattle.mux_segment.specs.Stream.{CutterState, FedBy, nothing_fed, fed_by}
use Rattle.pair_net.specs.Ends.{unread, given, answered}
use Rattle.pair_net.specs.Hearing.{heard}
use Rattle.pair_net.specs.Steps.{concludes, delivers_in, delivers}
use Rattle.pair_net.specs.declared.end.End.{End}
use Rattle.pair_net.specs.declared.end.EndPhase.{EndPhase}
use Rattle.pair_net.specs.declared.end.EndPhase.TheVariants.{Waiting}
use Rattle.pair_net.specs.declared.end_state.EndState.{EndState}
use Rattle.pair_net.proofs.Hears.{fed_on, heard_on, unheard_of}
use Rattle.pair_net.proofs.Spoken.{IsSpoken}

-- what it has received so far is not decoded, and nothing was heard of it
pub record IsListening (role : Role) (own : VersionInfo) (sent : List ℕ) (e : EndState) : Type 0 where
  pub phase-is : e.phase ≡ Waiting role
  pub info-is : e.info ≡ own
  pub before : List ℕ
  pub stream-is : e.stream ≡ unread before
  pub joined : before ++ e.incoming ≡ sent
  pub unheard : heard role own nothing_fed before ≡ None

module _ (role : Role) (own : VersionInfo) (sent : List ℕ) (e : EndState) (listens : IsListening role own sent e) where
  abbrev next : ℕ → List ℕ
  next count = take count e.incoming

  abbrev so_far : ℕ → List ℕ
  so_far count = listens.before ++ next count

  -- what has come and what is on the way stay the same together
  given_joined : (count : ℕ) → so_far count ++ (given count e).incoming ≡ sent
  given_joined count =
      append_assoc listens.before (take count e.incoming) (drop count e.incoming)
      ∙ ap (λ (x : List ℕ). listens.before ++ x) (take-append-drop count e.incoming)
      ∙ listens.joined

  given_stream : (count : ℕ) → fed_by node_limits nothing_fed (so_far count) ≡ record { state = unread (so_far count); items = [] } → (given count e).stream ≡ unread (so_far count)
  given_stream count quiet =
      ap (λ (s : CutterState). (fed_by node_limits s (next count)).state) listens.stream-is
      ∙ ap (λ (fed : FedBy). fed.state) (fed_on listens.before (next count) ∙ quiet)

  given_listens : (count : ℕ) → fed_by node_limits nothing_fed (so_far count) ≡ record { state = unread (so_far count); items = [] } → IsListening role own sent (given count e)
  given_listens count quiet = record {
    phase-is = listens.phase-is;
    info-is = listens.info-is;
    before = so_far count;
    stream-is = given_stream count quiet;
    joined = given_joined count;
    unheard = unheard_of role own (so_far count) quiet;
  }

  -- what is heard of new bytes is what is heard of all
  heard_so_far : (count : ℕ) → heard role own e.stream (next count) ≡ heard role own nothing_fed (so_far count)
  heard_so_far count = ap (λ (s : CutterState). heard role own s (next count)) listens.stream-is ∙ heard_on role own listens.before (next count)

  -- what comes of a delivery is what is heard of it
  pub by_heard : (count : ℕ) (end : End) (far : EndState) (h : Option Received) → heard role own e.stream (next count) ≡ h
      → delivers count end e far ≡ concludes h end (given count e) far
  by_heard count end far h is =
      ap (λ (phase : EndPhase). delivers_in phase count end e far) listens.phase-is
      ∙ ap (λ (info : VersionInfo). concludes (heard role info e.stream (next count)) end (given count e) far) listens.info-is
      ∙ ap (λ (x : Option Received). concludes x end (given count e) far) is

  module _ (v : Verdict) (said : IsSpoken role own sent v) where
    -- something is on the way
    pub never_silent : e.incoming ≡ [] → ⊥
    never_silent none =
        let all : listens.before ≡ sent = sym (append-nil listens.before) ∙ ap (λ (x : List ℕ). listens.before ++ x) (sym none) ∙ listens.joined in
        let some : heard role own nothing_fed listens.before ≡ Some (Decided v) = ap (heard role own nothing_fed) all ∙ said.whole in
        let both : ◌≡◌ {A = Option Received} None (Some (Decided v)) = sym listens.unheard ∙ some in
        absurd cc

    -- After a delivery it waits on, or has heard the verdict and nothing is on the way.
    pub record HearsNow (count : ℕ) : Type 0 where
      pub hears : heard role own e.stream (next count) ≡ Some (Decided v)
      pub silent : (given count e).incoming ≡ []

    pub record WaitsOn (count : ℕ) : Type 0 where
      pub unheard : heard role own e.stream (next count) ≡ None
      pub listening : IsListening role own sent (given count e)

    pub hears_or_waits : (count : ℕ) → WaitsOn count ⊎ HearsNow count
    hears_or_waits count =
        elim (cases_lt count (length e.incoming)) [
          | inl less ↦
              let some : 0 < length (drop count e.incoming) = omega (arith, length-drop count e.incoming) in
              let quiet = said.front (so_far count) (drop count e.incoming) (given_joined count) some in
              inl (record { unheard = heard_so_far count ∙ unheard_of role own (so_far count) quiet; listening = given_listens count quiet })
          | inr more ↦
              let none : drop count e.incoming ≡ [] = drop_all count e.incoming more in
              let all : so_far count ≡ sent =
              sym (append-nil (so_far count)) ∙ ap (λ (x : List ℕ). so_far count ++ x) (sym none) ∙ given_joined count in
              inr (record { hears = heard_so_far count ∙ ap (heard role own nothing_fed) all ∙ said.whole; silent = none })
        ]

-- an end to which nothing was said yet
pub silent_waits : (role : Role) (own : VersionInfo) (e : EndState) → fed_by node_limits nothing_fed [] ≡ record { state = unread []; items = [] } → (listens : IsListening role own [] e) → (count : ℕ)
    → (heard role own e.stream (take count e.incoming) ≡ None) × IsListening role own [] (given count e)
silent_waits role own e nothing listens count =
    let joined = given_joined role own [] e listens count in
    let none : so_far role own [] e listens count ≡ [] = append_nothing (so_far role own [] e listens count) (given count e).incoming joined in
    let quiet : fed_by node_limits nothing_fed (so_far role own [] e listens count) ≡ record { state = unread (so_far role own [] e listens count); items = [] } =
    subst (λ (x : List ℕ). fed_by node_limits nothing_fed x ≡ record { state = unread x; items = [] }) (sym none) nothing in
    (heard_so_far role own [] e listens count ∙ unheard_of role own (so_far role own [] e listens count) quiet, given_listens role own [] e listens count quiet)
  where
    append_nothing : (xs ys : List ℕ) → xs ++ ys ≡ [] → xs ≡ []
    append_nothing [] ys e = refl
    append_nothing (x ∷ xs) ys e = absurd cc

-- its pipe is reached by what is said first
pub reached_listens : (role : Role) (own : VersionInfo) (sent : List ℕ) (e : EndState) → IsListening role own [] e
    → IsListening role own sent (answered (Some sent) e)
reached_listens role own sent e listens = record {
  phase-is = listens.phase-is;
  info-is = listens.info-is;
  before = listens.before;
  stream-is = listens.stream-is;
  joined = sym (append_assoc listens.before e.incoming sent) ∙ ap (λ (x : List ℕ). x ++ sent) listens.joined;
  unheard = listens.unheard;
}
