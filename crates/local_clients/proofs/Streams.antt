-- What comes of the segments of a client's stream, one after the other.
use Rattle.std.proofs.Common.{◌≡◌, ℕ, ◌+◌, ◌-◌, ◌≤◌, ◌<◌, List, [], ◌∷◌, ◌++◌, length, take, drop, Option, Some, None, refl, sym, ap, ◌∙◌, append_assoc, arith}
use Rattle.std.proofs.lemmas.List.{append-nil, length-append, drop-drop, drop_at}
use Rattle.mux_segment.specs.Segment.{Segment, segment_at, Cut, cut_of}
use Rattle.mux_segment.proofs.Cuts.{front_of, cut_none, cut_some}
use Rattle.local_clients.specs.declared.action.ClientAction.{ClientAction}
use Rattle.local_clients.specs.declared.context.Context.{Context}
use Rattle.local_clients.specs.declared.phase.Phase.{Phase}
use Rattle.local_clients.specs.Hearing.{Heard, goes_on, segment_heard, then_heard, heard}

abbrev behind_rest : Context → Phase → List ℕ → Heard
behind_rest context phase rest = heard context phase (cut_of rest).segments

-- with `rest` still to come, and this phase and these actions so far
pub record IsHearing (context : Context) (old_phase : Phase) (old_actions : List ClientAction) (stream : List ℕ) (phase : Phase) (actions : List ClientAction) (rest : List ℕ) : Type 0 where
  pub actions-are : actions ++ (behind_rest context phase rest).actions ≡ old_actions ++ (behind_rest context old_phase stream).actions
  pub phase-is : (behind_rest context phase rest).phase ≡ (behind_rest context old_phase stream).phase
  pub rest-is : (cut_of rest).rest ≡ (cut_of stream).rest
  pub within : length rest ≤ length stream
  pub behind : drop (length stream - length rest) stream ≡ rest

pub heard_turn : (context : Context) (phase : Phase) (s : Segment) (segments : List Segment) → heard context phase (s ∷ segments) ≡
    then_heard (segment_heard context phase s).actions (segment_heard context phase s).phase (λ next. heard context next segments)
unfolding heard
heard_turn context phase s segments = refl

pub heard_end : (context : Context) (phase : Phase) → heard context phase [] ≡ goes_on phase
unfolding heard
heard_end context phase = refl

module _ (context : Context) (old_phase : Phase) (old_actions : List ClientAction) (stream : List ℕ) where
  pub hearing_starts : IsHearing context old_phase old_actions stream old_phase old_actions stream
  hearing_starts = record {
    actions-are = refl;
    phase-is = refl;
    rest-is = refl;
    within = omega arith;
    behind = let none : length stream - length stream ≡ 0 = omega arith in rw none refl;
  }

  module _ (phase : Phase) (actions : List ClientAction) (rest : List ℕ) (s : Segment) (after : List ℕ) (some : segment_at rest ≡ Some (s, after))
      (so_far : IsHearing context old_phase old_actions stream phase actions rest) where
    -- what comes of the rest, by its first segment
    turn : behind_rest context phase rest ≡
        then_heard (segment_heard context phase s).actions (segment_heard context phase s).phase (λ next. behind_rest context next after)
    turn = ap (λ (c : Cut). heard context phase c.segments) (cut_some rest s after some) ∙ heard_turn context phase s (cut_of after).segments

    pub hearing_goes_on : (next : Phase) (new_actions : List ClientAction) → Some next ≡ (segment_heard context phase s).phase
        → new_actions ≡ actions ++ (segment_heard context phase s).actions → IsHearing context old_phase old_actions stream next new_actions after
    hearing_goes_on next new_actions phase-is actions-is =
        let first = segment_heard context phase s in
        let others = behind_rest context next after in
        let both : behind_rest context phase rest ≡ record { actions = first.actions ++ others.actions; phase = others.phase } =
        turn ∙ ap (λ (p : Option Phase). then_heard first.actions p (λ later. behind_rest context later after)) (sym phase-is) in
        let f = front_of rest s after some in
        let place : length stream - length after ≡ (length stream - length rest) + (length rest - length after) = omega (arith, f.long, so_far.within) in
        let cut_behind : drop (length rest - length after) rest ≡ after =
        let joined : rest ≡ (take 8 rest ++ s.payload) ++ after = f.joined ∙ sym (append_assoc (take 8 rest) s.payload after) in
        let len : length (take 8 rest ++ s.payload) ≡ length rest - length after = omega (arith, ap length joined, length-append (take 8 rest ++ s.payload) after) in
        ap (drop (length rest - length after)) joined ∙ drop_at (take 8 rest ++ s.payload) after (length rest - length after) len in
        let is : IsHearing context old_phase old_actions stream next (actions ++ first.actions) after = record {
          actions-are = append_assoc actions first.actions others.actions ∙ sym (ap (λ (h : Heard). actions ++ h.actions) both) ∙ so_far.actions-are;
          phase-is = sym (ap (λ (h : Heard). h.phase) both) ∙ so_far.phase-is;
          rest-is = sym (ap (λ (c : Cut). c.rest) (cut_some rest s after some)) ∙ so_far.rest-is;
          within = omega (arith, f.long, so_far.within);
          behind = rw place (sym (drop-drop (length rest - length after) (length stream - length rest) stream) ∙ ap (drop (length rest - length after)) so_far.behind ∙ cut_behind);
        } in
        rw actions-is is

    -- the client is closed
    pub hearing_stops : (new_actions : List ClientAction) → None ≡ (segment_heard context phase s).phase
        → new_actions ≡ actions ++ (segment_heard context phase s).actions
        → ((behind_rest context old_phase stream).phase ≡ None) × (new_actions ≡ old_actions ++ (behind_rest context old_phase stream).actions)
    hearing_stops new_actions phase-is actions-is =
        let first = segment_heard context phase s in
        let both : behind_rest context phase rest ≡ record { actions = first.actions; phase = None } =
        turn ∙ ap (λ (p : Option Phase). then_heard first.actions p (λ later. behind_rest context later after)) (sym phase-is) in (
          sym so_far.phase-is ∙ ap (λ (h : Heard). h.phase) both,
          actions-is ∙ sym (ap (λ (h : Heard). actions ++ h.actions) both) ∙ so_far.actions-are,
        )

  pub hearing_smaller : (rest : List ℕ) (s : Segment) (after : List ℕ) → segment_at rest ≡ Some (s, after) → length after < length rest
  hearing_smaller rest s after some = let f = front_of rest s after some in omega (arith, f.long)

  -- no whole segment is left
  pub record HasHeard (phase : Phase) (actions : List ClientAction) (rest : List ℕ) : Type 0 where
    pub phase-is : (behind_rest context old_phase stream).phase ≡ Some phase
    pub actions-are : actions ≡ old_actions ++ (behind_rest context old_phase stream).actions
    pub behind : drop (length stream - length rest) stream ≡ (cut_of stream).rest

  pub hearing_ends : (phase : Phase) (actions : List ClientAction) (rest : List ℕ) → segment_at rest ≡ None
      → IsHearing context old_phase old_actions stream phase actions rest → HasHeard phase actions rest
  hearing_ends phase actions rest none so_far =
      let c = cut_none rest none in
      let last : behind_rest context phase rest ≡ goes_on phase = ap (λ (x : Cut). heard context phase x.segments) c ∙ heard_end context phase in
      record {
        phase-is = sym so_far.phase-is ∙ ap (λ (h : Heard). h.phase) last;
        actions-are = sym (append-nil actions) ∙ sym (ap (λ (h : Heard). actions ++ h.actions) last) ∙ so_far.actions-are;
        behind = so_far.behind ∙ sym (ap (λ (x : Cut). x.rest) c) ∙ so_far.rest-is;
      }
