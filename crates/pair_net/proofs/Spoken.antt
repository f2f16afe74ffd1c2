-- What an end says, as the other one hears it.
use Rattle.std.proofs.Common.{◌≡◌, ℕ, ◌+◌, ◌*◌, ◌≤◌, ◌<◌, ◌^◌, Bool, true, cond, List, [], ◌∷◌, ◌++◌, length, if◌then◌else◌, Option, Some, refl, sym, ap, ◌∙◌, arith, lit<, lit≤, ltb}
use Rattle.std.specs.Int.{w16, w32, w64, to_be_bytes}
use Rattle.std.proofs.lemmas.List.{append-nil, length-append}
use Rattle.std.proofs.lemmas.Bool.{cond_both}
use Rattle.cbor_items.specs.Head.{shortest_head}
use Rattle.cbor_items.specs.declared.scan.Scan.TheVariants.{Whole}
use Rattle.cbor_items.specs.Scan.{scan_of}
use Rattle.hs_message.specs.declared.info.VersionInfo.{VersionInfo}
use Rattle.hs_message.specs.declared.info.Info.TheVariants.{Known}
use Rattle.hs_message.specs.declared.message.Message.{Message}
use Rattle.hs_message.specs.declared.message.Message.TheVariants as message
use Rattle.hs_message.specs.Canonical.{node_spelling, version_info_spelling, CanWrite}
use Rattle.hs_message.specs.Law.{Fits}
use Rattle.hs_message.specs.Reading.{message_of}
use Rattle.hs_message.proofs.Whole.{message_again}
use Rattle.hs_message.proofs.Written.{written_is_read}
use Rattle.hs_decide.specs.declared.role.Role.{Role}
use Rattle.hs_decide.specs.declared.role.Role.TheVariants.{Acceptor, Dialer}
use Rattle.hs_decide.specs.declared.verdict.Verdict.{Verdict}
use Rattle.hs_decide.specs.Agreement.{verdict_of}
use Rattle.hs_decide.specs.Answers.{own_table, proposal_of}
use Rattle.mux_segment.specs.Frame.{frame_of}
use Rattle.mux_segment.specs.Protocols.{node_limits}
use Rattle.mux_segment.specs.Stream.{nothing_fed, fed_by}
use Rattle.hs_receive.specs.Receiving.{is_awaited, fits_side, receives_message}
use Rattle.hs_receive.specs.declared.received.Received.TheVariants.{Decided, Fault}
use Rattle.net_base.specs.declared.action.FaultKind.TheVariants.{Protocol}
use Rattle.pair_net.specs.Ends.{unread}
use Rattle.pair_net.specs.Hearing.{heard}
use Rattle.pair_net.proofs.Frames.{limit, front_fed, whole_heard}

-- ---- how long a message is

head_small : (major value : ℕ) → length (shortest_head major value) ≤ 9
unfolding shortest_head
head_small major value =
    let P : List ℕ → Type 0 = λ bytes. length bytes ≤ 9 in
    let one : List ℕ = (major * 32 + value) ∷ [] in
    let two : List ℕ = (major * 32 + 24) ∷ value ∷ [] in
    let three : List ℕ = (major * 32 + 25) ∷ to_be_bytes w16 value in
    let five : List ℕ = (major * 32 + 26) ∷ to_be_bytes w32 value in
    let nine : List ℕ = (major * 32 + 27) ∷ to_be_bytes w64 value in
    let to_five : List ℕ = cond (ltb value 4294967296) five nine in
    let to_three : List ℕ = cond (ltb value 65536) three to_five in
    let to_two : List ℕ = cond (ltb value 256) two to_three in
    cond_both (ltb value 24) one to_two P (λ e. lit≤ tt) (λ e.
    cond_both (ltb value 256) two to_three P (λ e. lit≤ tt) (λ e.
    cond_both (ltb value 65536) three to_five P (λ e. lit≤ tt) (λ e.
    cond_both (ltb value 4294967296) five nine P (λ e. lit≤ tt) (λ e. lit≤ tt))))

info_small : (info : VersionInfo) → length (version_info_spelling info) ≤ 29
info_small info =
    simp length-append (omega (arith, head_small 4 4, head_small 0 info.magic, head_small 0 (if info.sharing then 1 else 0)))

proposal_small : (own : VersionInfo) → length (node_spelling (message.Propose (own_table own))) ≤ limit
unfolding node_spelling
proposal_small own =
    simp length-append (omega (
      arith,
      head_small 4 2,
      head_small 0 0,
      head_small 5 2,
      head_small 0 13,
      head_small 0 14,
      head_small 4 4,
      head_small 0 own.magic,
      head_small 0 (if own.sharing then 1 else 0),
    ))

acceptance_small : (version : ℕ) (info : VersionInfo) → length (node_spelling (message.Accept version (Known info))) ≤ limit
unfolding node_spelling
acceptance_small version info =
    simp length-append (omega (
      arith,
      head_small 4 3,
      head_small 0 1,
      head_small 0 version,
      head_small 4 4,
      head_small 0 info.magic,
      head_small 0 (if info.sharing then 1 else 0),
    ))

-- ---- what comes of these bytes to an end that waits for them: nothing of a front, and of all a verdict

pub record IsSpoken (role : Role) (own : VersionInfo) (sent : List ℕ) (v : Verdict) : Type 0 where
  pub front : (front behind : List ℕ) → front ++ behind ≡ sent → 0 < length behind → fed_by node_limits nothing_fed front ≡ record { state = unread front; items = [] }
  pub whole : heard role own nothing_fed sent ≡ Some (Decided v)

spoken : (role : Role) (own : VersionInfo) (side : ℕ) (said : Message) → side ≤ 1 → length (node_spelling said) ≤ limit → Fits said → CanWrite said
    → is_awaited role side ≡ true → fits_side role side said ≡ true
    → IsSpoken role own (frame_of side 0 0 (node_spelling said)) (verdict_of role own said)
spoken role own side said side_fits small fits can awaited on_side =
    let written = written_is_read said [] fits can in
    let payload : List ℕ = node_spelling said in
    let is_item : scan_of payload ≡ Whole (length payload) = ap scan_of (sym (append-nil payload)) ∙ written.1 in
    let read : message_of payload ≡ Some said = message_again payload said written.0 in
    record {
      front = λ front behind joined some. front_fed side side_fits payload small is_item front behind joined some;
      whole =
          whole_heard side side_fits payload small is_item role own
          ∙ ap (λ (b : Bool). Some (if b then receives_message Fault Decided role own side (message_of payload) else Fault Protocol)) awaited
          ∙ ap (λ (m : Option Message). Some (receives_message Fault Decided role own side m)) read
          ∙ ap (λ (b : Bool). Some (if b then Decided (verdict_of role own said) else Fault Protocol)) on_side;
    }

proposal_fits : (own : VersionInfo) → own.magic < 2 ^ 32 → Fits (message.Propose (own_table own))
proposal_fits own magic = (lit< tt, ((lit< tt, magic), ((lit< tt, magic), tt)))

proposal_can : (own : VersionInfo) → CanWrite (message.Propose (own_table own))
proposal_can own = ((refl, (refl, tt)), refl)

pub proposal_spoken : (role : Role) (own theirs : VersionInfo) → theirs.magic < 2 ^ 32
    → IsSpoken role own (frame_of 0 0 0 (proposal_of theirs)) (verdict_of role own (message.Propose (own_table theirs)))
proposal_spoken Acceptor own theirs magic =
    spoken Acceptor own 0 (message.Propose (own_table theirs)) (lit≤ tt) (proposal_small theirs) (proposal_fits theirs magic) (proposal_can theirs) refl refl
proposal_spoken Dialer own theirs magic =
    spoken Dialer own 0 (message.Propose (own_table theirs)) (lit≤ tt) (proposal_small theirs) (proposal_fits theirs magic) (proposal_can theirs) refl refl

pub acceptance_spoken : (own info : VersionInfo) → info.magic < 2 ^ 32
    → IsSpoken Dialer own (frame_of 1 0 0 (node_spelling (message.Accept 14 (Known info)))) (verdict_of Dialer own (message.Accept 14 (Known info)))
acceptance_spoken own info magic =
    spoken Dialer own 1 (message.Accept 14 (Known info)) (lit≤ tt) (acceptance_small 14 info) (lit< tt, magic) refl refl refl
