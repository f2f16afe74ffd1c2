-- A message in one segment, whole or in part.
use Rattle.std.proofs.Common.{◌≡◌, ℕ, zero, suc, ◌≤◌, ◌<◌, List, [], ◌∷◌, ◌++◌, length, take, drop, map, Option, Some, None, refl, sym, ap, ◌∙◌, arith, lit<, le-ltb}
use Rattle.std.specs.List.{flat_map}
use Rattle.std.proofs.lemmas.List.{length-append, take_all, drop_all}
use Rattle.cbor_items.specs.declared.scan.Scan.{Scan}
use Rattle.cbor_items.specs.declared.scan.Scan.TheVariants as scan
use Rattle.cbor_items.specs.Scan.{scan_of, skip_item}
use Rattle.net_base.specs.Shared.{Part}
use Rattle.mux_segment.specs.Segment.{Segment, IsSegment, segment_bytes, segment_at, Cut, cut_within, cut_of}
use Rattle.mux_segment.specs.Frame.{payload_limit, pieces_within, pieces_of, segment_of, frame_of}
use Rattle.mux_segment.specs.Items.{Taken, taken_at, taken_within, taken_of}
use Rattle.mux_segment.specs.Parts.{part_bytes, without_part, with_part}
use Rattle.mux_segment.specs.Protocols.{node_limits}
use Rattle.mux_segment.specs.Stream.{Decoded, item_of, segment_decoded, then_decoded, decoded, FedBy, nothing_fed, state_after, fed_by}
use Rattle.mux_segment.specs.declared.item.Item.{Item}
use Rattle.hs_decide.specs.declared.role.Role.{Role}
use Rattle.hs_message.specs.declared.info.VersionInfo.{VersionInfo}
use Rattle.hs_receive.specs.Receiving.{receives}
use Rattle.hs_receive.specs.declared.received.Received.TheVariants.{Decided, Fault}
use Rattle.pair_net.specs.Ends.{unread}
use Rattle.pair_net.specs.Hearing.{heard, heard_first}
use Rattle.pair_net.proofs.Hears.{unheard_of}
use Rattle.mux_segment.proofs.Cuts.{segment_again, segment_stays, cut_none, cut_some, with_segment}

-- how many bytes a message of the handshake may have
abbrev pub limit : ℕ
limit = 5760

no_pieces : (n : ℕ) → pieces_within n [] ≡ []
unfolding pieces_within
no_pieces zero = refl
no_pieces (suc n) = refl

one_piece : (payload : List ℕ) → length payload ≤ limit → pieces_of payload ≡ payload ∷ []
unfolding pieces_of
one_piece payload small =
    ap (λ (x : List ℕ). x ∷ pieces_within (length payload) (drop payload_limit payload)) (take_all payload_limit payload (omega arith))
    ∙ ap (λ (x : List ℕ). payload ∷ pieces_within (length payload) x) (drop_all payload_limit payload (omega arith))
    ∙ ap (λ (x : List (List ℕ)). payload ∷ x) (no_pieces (length payload))

-- ---- a stream from its beginning

abbrev pub of_cut : Cut → FedBy
of_cut c = let d = decoded node_limits [] c.segments in record { state = state_after d.fault c.rest d.parts; items = d.items }

pub fed_is : (bytes : List ℕ) → fed_by node_limits nothing_fed bytes ≡ of_cut (cut_of bytes)
unfolding fed_by
fed_is bytes = refl

empty_cut : cut_of [] ≡ record { segments = []; rest = [] }
unfolding cut_of cut_within
empty_cut = refl

-- ---- the items of the message

module _ (payload : List ℕ) (small : length payload ≤ limit) (is_item : scan_of payload ≡ scan.Whole (length payload)) where
  nothing_left : (n : ℕ) → taken_within limit n [] ≡ record { bodies = []; left = []; fault = None }
  unfolding taken_within scan_of skip_item
  nothing_left zero = refl
  nothing_left (suc n) = refl

  pub one_item : taken_of limit payload ≡ record { bodies = payload ∷ []; left = []; fault = None }
  unfolding taken_of taken_within
  one_item =
      let others : taken_within limit (length payload) (drop (length payload) payload) ≡ record { bodies = []; left = []; fault = None } =
      ap (taken_within limit (length payload)) (drop_all (length payload) payload (omega arith)) ∙ nothing_left (length payload) in
      ap (λ (s : Scan). taken_at s limit payload (taken_within limit (length payload))) is_item
      ∙ rw (le-ltb limit (length payload) small)
      (ap (λ (t : Taken). record { bodies = take (length payload) payload ∷ t.bodies; left = t.left; fault = t.fault }) others
      ∙ ap (λ (x : List ℕ). record { bodies = x ∷ []; left = []; fault = None }) (take_all (length payload) payload (omega arith)))

-- ---- the segment of the message

abbrev behind_of : Option (Segment × List ℕ) → List ℕ
behind_of None = []
behind_of (Some read) = read.1

module _ (side : ℕ) (side_fits : side ≤ 1) (payload : List ℕ) (small : length payload ≤ limit) (is_item : scan_of payload ≡ scan.Whole (length payload)) where
  abbrev the_frame : List ℕ
  the_frame = frame_of side 0 0 payload

  abbrev the_segment : Segment
  the_segment = segment_of side 0 0 payload

  is_segment : IsSegment the_segment
  is_segment = record { fits = record { time = lit< tt; side = side_fits; id = lit< tt; size = omega arith }; size = refl }

  framed : the_frame ≡ segment_bytes the_segment ++ []
  unfolding frame_of
  framed = ap (λ (pieces : List (List ℕ)). flat_map segment_bytes (map (segment_of side 0 0) pieces)) (one_piece payload small)

  at_front : segment_at the_frame ≡ Some (the_segment, [])
  at_front = ap segment_at framed ∙ segment_again the_segment [] is_segment

  whole_cut : cut_of the_frame ≡ record { segments = the_segment ∷ []; rest = [] }
  whole_cut = cut_some the_frame the_segment [] at_front ∙ ap (with_segment the_segment) empty_cut

  -- a front that is not all of it has no whole segment
  by_look : (front behind : List ℕ) (o : Option (Segment × List ℕ)) → front ++ behind ≡ the_frame → 0 < length behind → segment_at front ≡ o
      → cut_of front ≡ record { segments = []; rest = front }
  by_look front behind None joined some is = cut_none front is
  by_look front behind (Some read) joined some is =
      let more : segment_at the_frame ≡ Some (read.0, read.1 ++ behind) = ap segment_at (sym joined) ∙ segment_stays front behind read.0 read.1 is in
      let pairs : ◌≡◌ {A = Option (Segment × List ℕ)} (Some (the_segment, [])) (Some (read.0, read.1 ++ behind)) = sym at_front ∙ more in
      let none : read.1 ++ behind ≡ [] = sym (ap behind_of pairs) in
      absurd (omega (arith, ap length none, length-append read.1 behind))

  front_cut : (front behind : List ℕ) → front ++ behind ≡ the_frame → 0 < length behind → cut_of front ≡ record { segments = []; rest = front }
  front_cut front behind joined some = by_look front behind (segment_at front) joined some refl

  -- ---- what comes of it

  abbrev the_item : Item
  the_item = item_of side 0 payload

  abbrev parts_then : List Part
  parts_then = with_part side 0 [] (without_part side 0 [])

  taken : segment_decoded node_limits [] the_segment ≡ record { parts = parts_then; items = the_item ∷ []; fault = None }
  unfolding segment_decoded part_bytes
  taken =
      ap (λ (t : Taken). record { parts = with_part side 0 t.left (without_part side 0 []); items = map (item_of side 0) t.bodies; fault = t.fault })
      (one_item payload small is_item)

  one_decoded : decoded node_limits [] (the_segment ∷ []) ≡ record { parts = parts_then; items = the_item ∷ []; fault = None }
  unfolding decoded
  one_decoded = ap (λ (d : Decoded). then_decoded d.fault d (λ parts. decoded node_limits parts [])) taken

  whole_fed : fed_by node_limits nothing_fed the_frame ≡ record { state = state_after None [] parts_then; items = the_item ∷ [] }
  whole_fed =
      fed_is the_frame ∙ ap of_cut whole_cut
      ∙ ap (λ (d : Decoded). record { state = state_after d.fault [] d.parts; items = d.items }) one_decoded

  pub front_fed : (front behind : List ℕ) → front ++ behind ≡ the_frame → 0 < length behind
      → fed_by node_limits nothing_fed front ≡ record { state = unread front; items = [] }
  unfolding decoded
  front_fed front behind joined some = fed_is front ∙ ap of_cut (front_cut front behind joined some)

  -- ---- what an end hears of it

  pub whole_heard : (role : Role) (own : VersionInfo) → heard role own nothing_fed the_frame ≡ Some (receives Fault Decided role own the_item)
  unfolding heard
  whole_heard role own = ap (λ (fed : FedBy). heard_first role own fed.items fed.state.fault) whole_fed

-- nothing comes of nothing
pub nothing_comes : fed_by node_limits nothing_fed [] ≡ record { state = unread []; items = [] }
unfolding decoded
nothing_comes = fed_is [] ∙ ap of_cut empty_cut

pub nothing_heard : (role : Role) (own : VersionInfo) → heard role own nothing_fed [] ≡ None
nothing_heard role own = unheard_of role own [] nothing_comes
