-- How notes are printed.
use Rattle.std.specs.Prelude.{ℕ, Bool, true, false, List, [], ◌∷◌, ◌++◌, codes, decimal}
use Rattle.std.specs.List.{join_with_byte}
use Rattle.hex.specs.Hex.{encode_lower}
use Rattle.hs_decide.specs.declared.role.Role.{Role}
use Rattle.hs_decide.specs.declared.role.Role.TheVariants.{Acceptor, Dialer}
use Rattle.trace_text.specs.Actions.{fault_words}
use Rattle.pair_net.specs.declared.end.End.{End}
use Rattle.pair_net.specs.declared.end.End.TheVariants.{Left, Right}
use Rattle.pair_net.specs.declared.end.EndCause.{EndCause}
use Rattle.pair_net.specs.declared.end.EndCause.TheVariants as cause
use Rattle.pair_net.specs.declared.note.PairNote.{PairNote}
use Rattle.pair_net.specs.declared.note.PairNote.TheVariants.{Waits, Sent, Agrees, Ends}

abbrev pub end_word : End → List ℕ
end_word Left = codes "left"
end_word Right = codes "right"

abbrev pub role_word : Role → List ℕ
role_word Dialer = codes "dialing"
role_word Acceptor = codes "accepting"

abbrev pub flow_word : Bool → List ℕ
flow_word true = codes "uni"
flow_word false = codes "duplex"

abbrev pub sharing_word : Bool → List ℕ
sharing_word true = codes "sharing"
sharing_word false = codes "alone"

abbrev pub cause_words : EndCause → List ℕ
cause_words cause.Refused = codes "refused"
cause_words cause.Query = codes "query"
cause_words cause.Timeout = codes "timeout"
cause_words cause.Closed = codes "closed"
cause_words (cause.Fault kind) = fault_words kind

abbrev pub note_words : PairNote → List (List ℕ)
note_words (Waits end role) = end_word end ∷ role_word role ∷ []
note_words (Sent end bytes) = end_word end ∷ codes "send" ∷ encode_lower bytes ∷ []
note_words (Agrees end agreed) = end_word end ∷ codes "agreed" ∷ decimal agreed.version ∷ flow_word agreed.initiator_only ∷ sharing_word agreed.sharing ∷ []
note_words (Ends end cause) = end_word end ∷ codes "ended" ∷ cause_words cause ∷ []

-- a note's line, without its line feed
abbrev pub printed_note : PairNote → List ℕ
printed_note note = codes "> " ++ join_with_byte 32 (note_words note)
