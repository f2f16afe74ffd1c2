-- Feeding in pieces, and the items of a part by the grammar.
use Rattle.std.proofs.Common.{◌≡◌, ℕ, List, [], ◌∷◌, ◌++◌, Option, Some, None, refl, sym, ap, subst, ◌∙◌, append_assoc, lit<}
use Rattle.std.specs.List.{concat}
use Rattle.std.proofs.lemmas.List.{append-nil}
use Rattle.cbor_items.specs.Item.{AreBytes}
use Rattle.net_base.specs.Shared.{Part}
use Rattle.mux_segment.specs.declared.item.Item.{Item}
use Rattle.mux_segment.specs.declared.fault.CutFault.{CutFault}
use Rattle.mux_segment.specs.Segment.{Segment, IsCut, Cut, segment_at, cut_of}
use Rattle.mux_segment.specs.Protocols.{Limits}
use Rattle.mux_segment.specs.Stream.{Decoded, segment_decoded, then_decoded, decoded, CutterState, nothing_fed, FedBy, ended_with, state_after, fed_after, fed_by, fed_all}
use Rattle.mux_segment.specs.Law.{of_segments}
use Rattle.mux_segment.proofs.Cuts.{cut_append, cut_then, cut_settled, cut_none, no_header, cut_only, rest_fits}

-- ---- one stream after the other

abbrev with_front : Decoded → Decoded → Decoded
with_front first d = record { parts = d.parts; items = first.items ++ d.items; fault = d.fault }

front_then : (f : Option CutFault) (first d : Decoded) (next : List Part → Decoded) → with_front first (then_decoded f d next) ≡ then_decoded f (with_front first d) next
front_then None first d next =
    let others = next d.parts in
    ap (λ (x : List Item). record { parts = others.parts; items = x; fault = others.fault }) (sym (append_assoc first.items d.items others.items))
front_then (Some fault) first d next = refl

abbrev decoded_then : Limits → List Part → List Segment → List Segment → Decoded
decoded_then limits parts first second = let d = decoded limits parts first in then_decoded d.fault d (λ others. decoded limits others second)

then_append : (limits : Limits) (first second : List Segment) (f : Option CutFault) (d : Decoded) → d.fault ≡ f
    → decoded limits d.parts (first ++ second) ≡ decoded_then limits d.parts first second
    → then_decoded f d (λ others. decoded limits others (first ++ second))
    ≡ (let e = then_decoded f d (λ others. decoded limits others first) in then_decoded e.fault e (λ others. decoded limits others second))
then_append limits first second None d is others =
    let e = decoded limits d.parts first in
    ap (with_front d) others ∙ front_then e.fault d e (λ parts. decoded limits parts second)
then_append limits first second (Some fault) d is others = sym (ap (λ (f : Option CutFault). then_decoded f d (λ parts. decoded limits parts second)) is)

decoded_append : (limits : Limits) (first second : List Segment) (parts : List Part) → decoded limits parts (first ++ second) ≡ decoded_then limits parts first second
unfolding decoded
decoded_append limits [] second parts = refl
decoded_append limits (s ∷ first) second parts =
    let d = segment_decoded limits parts s in
    then_append limits first second d.fault d refl (decoded_append limits first second d.parts)

-- ---- one feed after the other

abbrev fed_twice : Limits → CutterState → List ℕ → List ℕ → FedBy
fed_twice limits state first second =
    let x = fed_by limits state first in
    let y = fed_by limits x.state second in
    record { state = y.state; items = x.items ++ y.items }

abbrev by_cut : Limits → List Part → Cut → FedBy
by_cut limits parts c = let d = decoded limits parts c.segments in record { state = state_after d.fault c.rest d.parts; items = d.items }

fed_open : (limits : Limits) (state : CutterState) (bytes : List ℕ) → state.fault ≡ None → fed_by limits state bytes ≡ by_cut limits state.undecoded.parts (cut_of (state.undecoded.rest ++ bytes))
unfolding fed_by
fed_open limits state bytes none = ap (λ (f : Option CutFault). fed_after f limits state bytes) none

fed_ended : (limits : Limits) (state : CutterState) (bytes : List ℕ) (fault : CutFault) → state.fault ≡ Some fault → fed_by limits state bytes ≡ record { state = state; items = [] }
unfolding fed_by
fed_ended limits state bytes fault some = ap (λ (f : Option CutFault). fed_after f limits state bytes) some

-- what a stream leaves, and what follows it
cut_twice : (limits : Limits) (parts : List Part) (c : Cut) (second : List ℕ) (f : Option CutFault) → (decoded limits parts c.segments).fault ≡ f
    → by_cut limits parts (cut_then c second)
    ≡ (let x = by_cut limits parts c in let y = fed_by limits x.state second in record { state = y.state; items = x.items ++ y.items })
cut_twice limits parts c second None none =
    let d = decoded limits parts c.segments in
    let c2 = cut_of (c.rest ++ second) in
    let d2 = decoded limits d.parts c2.segments in
    let kept : CutterState = record { undecoded = record { rest = c.rest; parts = d.parts }; fault = None } in
    let left : by_cut limits parts (cut_then c second) ≡ record { state = state_after d2.fault c2.rest d2.parts; items = d.items ++ d2.items } =
    ap (λ (x : Decoded). record { state = state_after x.fault c2.rest x.parts; items = x.items }) (decoded_append limits c.segments c2.segments parts
    ∙ ap (λ (f : Option CutFault). then_decoded f d (λ others. decoded limits others c2.segments)) none) in
    let state : state_after d.fault c.rest d.parts ≡ kept = ap (λ (f : Option CutFault). state_after f c.rest d.parts) none in
    let right : fed_by limits (state_after d.fault c.rest d.parts) second ≡ by_cut limits d.parts c2 =
    ap (λ (s : CutterState). fed_by limits s second) state ∙ fed_open limits kept second refl in
    left ∙ sym (ap (λ (y : FedBy). record { state = y.state; items = d.items ++ y.items }) right)
cut_twice limits parts c second (Some fault) some =
    let d = decoded limits parts c.segments in
    let c2 = cut_of (c.rest ++ second) in
    let left : by_cut limits parts (cut_then c second) ≡ record { state = ended_with fault; items = d.items } =
    ap (λ (x : Decoded). record { state = state_after x.fault c2.rest x.parts; items = x.items }) (decoded_append limits c.segments c2.segments parts
    ∙ ap (λ (f : Option CutFault). then_decoded f d (λ others. decoded limits others c2.segments)) some)
    ∙ ap (λ (f : Option CutFault). record { state = state_after f c2.rest d.parts; items = d.items }) some in
    let state : state_after d.fault c.rest d.parts ≡ ended_with fault = ap (λ (f : Option CutFault). state_after f c.rest d.parts) some in
    let right : fed_by limits (state_after d.fault c.rest d.parts) second ≡ record { state = ended_with fault; items = [] } =
    ap (λ (s : CutterState). fed_by limits s second) state ∙ fed_ended limits (ended_with fault) second fault refl in
    left ∙ ap (λ (x : List Item). record { state = ended_with fault; items = x }) (sym (append-nil d.items))
    ∙ sym (ap (λ (y : FedBy). record { state = y.state; items = d.items ++ y.items }) right)

fed_append : (limits : Limits) (state : CutterState) (f : Option CutFault) (first second : List ℕ) → state.fault ≡ f
    → fed_by limits state (first ++ second) ≡ fed_twice limits state first second
fed_append limits state None first second none =
    let rest = state.undecoded.rest in
    let parts = state.undecoded.parts in
    let c = cut_of (rest ++ first) in
    let whole : cut_of (rest ++ (first ++ second)) ≡ cut_then c second = ap cut_of (sym (append_assoc rest first second)) ∙ cut_append (rest ++ first) second in
    fed_open limits state (first ++ second) none
    ∙ ap (by_cut limits parts) whole
    ∙ cut_twice limits parts c second (decoded limits parts c.segments).fault refl
    ∙ sym (ap (λ (x : FedBy). let y = fed_by limits x.state second in record { state = y.state; items = x.items ++ y.items }) (fed_open limits state first none))
fed_append limits state (Some fault) first second some =
    fed_ended limits state (first ++ second) fault some
    ∙ sym (ap (λ (x : FedBy). let y = fed_by limits x.state second in record { state = y.state; items = x.items ++ y.items }) (fed_ended limits state first fault some)
    ∙ ap (λ (y : FedBy). record { state = y.state; items = [] ++ y.items }) (fed_ended limits state second fault some))

-- a state that nothing more comes of by itself
abbrev IsQuiet : Limits → CutterState → Type 0
IsQuiet limits state = fed_by limits state [] ≡ record { state = state; items = [] }

quiet_cut : (limits : Limits) (parts : List Part) (rest : List ℕ) → segment_at rest ≡ None → by_cut limits parts (cut_of (rest ++ [])) ≡ record { state = record { undecoded = record { rest = rest; parts = parts }; fault = None }; items = [] }
unfolding decoded
quiet_cut limits parts rest none = ap (by_cut limits parts) (ap cut_of (append-nil rest) ∙ cut_none rest none)

after_is_quiet : (limits : Limits) (f : Option CutFault) (rest : List ℕ) (parts : List Part) → segment_at rest ≡ None → IsQuiet limits (state_after f rest parts)
after_is_quiet limits None rest parts none =
    fed_open limits (record { undecoded = record { rest = rest; parts = parts }; fault = None }) [] refl ∙ quiet_cut limits parts rest none
after_is_quiet limits (Some fault) rest parts none = fed_ended limits (ended_with fault) [] fault refl

fed_is_quiet : (limits : Limits) (state : CutterState) (f : Option CutFault) (bytes : List ℕ) → state.fault ≡ f → IsQuiet limits (fed_by limits state bytes).state
fed_is_quiet limits state None bytes none =
    let c = cut_of (state.undecoded.rest ++ bytes) in
    let d = decoded limits state.undecoded.parts c.segments in
    subst (λ (x : FedBy). IsQuiet limits x.state) (sym (fed_open limits state bytes none)) (after_is_quiet limits d.fault c.rest d.parts (cut_settled (state.undecoded.rest ++ bytes)))
fed_is_quiet limits state (Some fault) bytes some =
    subst (λ (x : FedBy). IsQuiet limits x.state) (sym (fed_ended limits state bytes fault some)) (fed_ended limits state [] fault some)

nothing_is_quiet : (limits : Limits) → IsQuiet limits nothing_fed
nothing_is_quiet limits = after_is_quiet limits None [] [] (no_header [] (lit< tt))

fed_all_once : (limits : Limits) (pieces : List (List ℕ)) (state : CutterState) → IsQuiet limits state → fed_all limits state pieces ≡ fed_by limits state (concat pieces)
unfolding fed_all
fed_all_once limits [] state quiet = sym quiet
fed_all_once limits (piece ∷ pieces) state quiet =
    let x = fed_by limits state piece in
    let others = fed_all_once limits pieces x.state (fed_is_quiet limits state state.fault piece refl) in
    ap (λ (y : FedBy). record { state = y.state; items = x.items ++ y.items }) others
    ∙ sym (fed_append limits state state.fault piece (concat pieces) refl)

pub are_fed : (limits : Limits) (pieces : List (List ℕ)) (segments : List Segment) (rest : List ℕ) → AreBytes (concat pieces)
    → IsCut (concat pieces) segments rest → fed_all limits nothing_fed pieces ≡ of_segments limits segments rest
are_fed limits pieces segments rest are is =
    let bytes = concat pieces in
    fed_all_once limits pieces nothing_fed (nothing_is_quiet limits)
    ∙ fed_open limits nothing_fed bytes refl
    ∙ ap (by_cut limits []) (cut_only segments bytes rest (rest_fits bytes segments rest are is) is)
