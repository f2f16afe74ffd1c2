-- One feed of a cutter.
use Rattle.std.proofs.Common.{◌≡◌, ℕ, true, false, List, [], ◌∷◌, ◌++◌, take, map, slice_get, append-nil, Option, Some, None, Ok, refl, sym, ap, ◌∙◌}
use Rattle.std.specs.Prelude.{is_some}
use Rattle.cbor_items.specs.Scan.{scan_of}
use Rattle.net_base.specs.Shared.{Part}
use Rattle.mux_segment.specs.declared.item.Item.{Item}
use Rattle.mux_segment.specs.declared.fault.CutFault.{CutFault}
use Rattle.mux_segment.specs.declared.fed.Fed.{Fed}
use Rattle.mux_segment.specs.declared.header.Header.{Header}
use Rattle.mux_segment.specs.Segment.{Segment, Cut, segment_at, cut_of}
use Rattle.mux_segment.specs.Protocols.{Limits}
use Rattle.mux_segment.specs.Items.{Taken}
use Rattle.mux_segment.specs.Parts.{part_bytes}
use Rattle.mux_segment.specs.Steps.{next_of, segment_with}
use Rattle.mux_segment.specs.Stream.{Decoded, item_of, segment_decoded, then_decoded, decoded, CutterState, FedBy, ended_with, state_after, fed_after, fed_by}
use Rattle.mux_segment.specs.Given.{IsGiven, IsPut}
use Rattle.mux_segment.proofs.Cuts.{cut_some}
use Rattle.mux_segment.proofs.Streams.{known_decoded}
use Rattle.mux_segment.proofs.Takes.{taken_some}

abbrev kept : List ℕ → List Part → Option CutFault → CutterState
kept rest parts fault = record { undecoded = record { rest = rest; parts = parts }; fault = fault }

none_from : (o : Option CutFault) → is_some o ≡ false → o ≡ None
none_from None e = refl
none_from (Some fault) e = absurd cc

some_from : (o : Option CutFault) → is_some o ≡ true → (fault : CutFault) × (o ≡ Some fault)
some_from None e = absurd cc
some_from (Some fault) e = (fault, refl)

module _ (limits : Limits) (state : CutterState) (bytes : List ℕ) where
  pub fed_ended : (items : List Item) → is_some state.fault ≡ true → IsPut (fed_by limits state bytes) state items items state.fault
  unfolding fed_by
  fed_ended items ended =
      let f = some_from state.fault ended in
      let e : fed_after state.fault limits state bytes ≡ record { state = state; items = [] } = ap (λ (o : Option CutFault). fed_after o limits state bytes) f.1 in
      record {
        state = sym (ap (λ (b : FedBy). b.state) e);
        items = sym (append-nil items) ∙ sym (ap (λ (b : FedBy). items ++ b.items) e);
        fault = sym (ap (λ (b : FedBy). b.state.fault) e);
      }

  -- what comes of the stream so far
  abbrev of_stream : List ℕ → FedBy
  of_stream stream =
      let c = cut_of stream in
      let d = decoded limits state.undecoded.parts c.segments in
      record { state = state_after d.fault c.rest d.parts; items = d.items }

  fed_open : (stream : List ℕ) → is_some state.fault ≡ false → stream ≡ state.undecoded.rest ++ bytes → fed_by limits state bytes ≡ of_stream stream
  unfolding fed_by
  fed_open stream open' joined =
      ap (λ (o : Option CutFault). fed_after o limits state bytes) (none_from state.fault open') ∙ ap of_stream (sym joined)

  module _ (stream : List ℕ) (open' : is_some state.fault ≡ false) (joined : stream ≡ state.undecoded.rest ++ bytes) (old : List Item) where
    pub fed_read : (rest : List ℕ) (parts : List Part) (items : List Item)
        → (decoded limits state.undecoded.parts (cut_of stream).segments).fault ≡ None
        → rest ≡ (cut_of stream).rest
        → parts ≡ (decoded limits state.undecoded.parts (cut_of stream).segments).parts
        → items ≡ old ++ (decoded limits state.undecoded.parts (cut_of stream).segments).items
        → IsPut (fed_by limits state bytes) (record { undecoded = record { rest = rest; parts = parts }; fault = state.fault }) old items state.fault
    fed_read rest parts items no_fault rest-is parts-is items-is =
        let d = decoded limits state.undecoded.parts (cut_of stream).segments in
        let e = fed_open stream open' joined in
        let state-is : (fed_by limits state bytes).state ≡ record { undecoded = record { rest = (cut_of stream).rest; parts = d.parts }; fault = None } =
        ap (λ (b : FedBy). b.state) e ∙ ap (λ (f : Option CutFault). state_after f (cut_of stream).rest d.parts) no_fault in
        let none = none_from state.fault open' in
        record {
          state =
              ap (λ (x : List ℕ). kept x parts state.fault) rest-is
              ∙ ap (λ (x : List Part). kept (cut_of stream).rest x state.fault) parts-is
              ∙ ap (λ (x : Option CutFault). kept (cut_of stream).rest d.parts x) none
              ∙ sym state-is;
          items = items-is ∙ sym (ap (λ (b : FedBy). old ++ b.items) e);
          fault = none ∙ sym (ap (λ (s : CutterState). s.fault) state-is);
        }

    pub fed_stopped : (fault : CutFault) (items : List Item) (cutter : CutterState) (told : Option CutFault)
        → (decoded limits state.undecoded.parts (cut_of stream).segments).fault ≡ Some fault
        → items ≡ old ++ (decoded limits state.undecoded.parts (cut_of stream).segments).items
        → cutter ≡ ended_with fault → told ≡ Some fault → IsPut (fed_by limits state bytes) cutter old items told
    fed_stopped fault items cutter told stops items-is ends told-is =
        let d = decoded limits state.undecoded.parts (cut_of stream).segments in
        let e = fed_open stream open' joined in
        let state-is : (fed_by limits state bytes).state ≡ ended_with fault =
        ap (λ (b : FedBy). b.state) e ∙ ap (λ (f : Option CutFault). state_after f (cut_of stream).rest d.parts) stops in
        record {
          state = ends ∙ sym state-is;
          items = items-is ∙ sym (ap (λ (b : FedBy). old ++ b.items) e);
          fault = told-is ∙ sym (ap (λ (s : CutterState). s.fault) state-is);
        }

-- items that were put behind none are given
pub put_given : (expected : FedBy) (cutter : CutterState) (fed : Fed) (old new : List Item) (fault : Option CutFault) → IsPut expected cutter old new fault →
    old ≡ [] → fed.items ≡ new → fed.fault ≡ fault → IsGiven expected cutter fed
put_given expected cutter fed old new fault put none same fault-is = record {
  state = put.state;
  items = same ∙ put.items ∙ ap (λ (x : List Item). x ++ expected.items) none;
  fault = fault-is ∙ put.fault;
}

-- ---- the first item

-- a segment at the front gives its items first
first_decoded : (limits : Limits) (s : Segment) (segments : List Segment) (item : Item) → slice_get (segment_decoded limits [] s).items 0 ≡ Some item →
    slice_get (decoded limits [] (s ∷ segments)).items 0 ≡ Some item
unfolding decoded
first_decoded limits s segments item e = by_fault (segment_decoded limits [] s).fault (segment_decoded limits [] s).items e
  where
    by_fault : (f : Option CutFault) (items : List Item) → slice_get items 0 ≡ Some item →
        slice_get (then_decoded f (record (segment_decoded limits [] s) { items = items }) (λ others. decoded limits others segments)).items 0 ≡ Some item
    by_fault f [] e = absurd cc
    by_fault None (x ∷ xs) e = e
    by_fault (Some fault) (x ∷ xs) e = e

-- where nothing waits, the first item of the first segment is the first of all
pub fed_first : (limits : Limits) (state : CutterState) (bytes payload after : List ℕ) (header : Header) (limit n : ℕ) → is_some state.fault ≡ false →
    state.undecoded.rest ≡ [] → state.undecoded.parts ≡ [] → segment_at bytes ≡ Some (segment_with header payload, after) → limits header.id ≡ Some limit →
    next_of (scan_of payload) limit payload ≡ Ok (Some n) →
    slice_get (fed_by limits state bytes).items 0 ≡ Some (item_of header.side header.id (take n payload))
unfolding part_bytes
fed_first limits state bytes payload after header limit n open' no_rest no_parts found known next =
    let s = segment_with header payload in
    let item : Item = item_of header.side header.id (take n payload) in
    let joined : bytes ≡ state.undecoded.rest ++ bytes = sym (ap (λ (x : List ℕ). x ++ bytes) no_rest) in
    let e = fed_open limits state bytes bytes open' joined in
    let items : (decoded limits [] (cut_of bytes).segments).items ≡ (decoded limits [] (s ∷ (cut_of after).segments)).items =
    ap (λ (c : Cut). (decoded limits [] c.segments).items) (cut_some bytes s after found) in
    let taken : slice_get (segment_decoded limits [] s).items 0 ≡ Some item =
    ap (λ (d : Decoded). slice_get d.items 0) (known_decoded limits [] header payload limit known)
    ∙ ap (λ (t : Taken). slice_get (map (item_of header.side header.id) t.bodies) 0) (taken_some limit n payload next) in
    ap (λ (b : FedBy). slice_get b.items 0) e
    ∙ ap (λ (ps : List Part). slice_get (decoded limits ps (cut_of bytes).segments).items 0) no_parts
    ∙ ap (λ (is : List Item). slice_get is 0) items
    ∙ first_decoded limits s (cut_of after).segments item taken
