-- By what messages and reasons are told apart as they are read: how many elements the array has, and the number that is the
-- first of them.
use Rattle.std.specs.Prelude.{Bool, ◌&&◌, ◌==◌, List, [], ◌∷◌, Option, Some, None, if◌then◌else◌}
use Rattle.hs_message.specs.declared.tag.Tag.{Tag}
use Rattle.hs_message.specs.declared.message_code.MessageCode.{MessageCode}
use Rattle.hs_message.specs.declared.message_code.MessageCode.TheVariants.{Propose, Accept, Refuse, QueryReply}
use Rattle.hs_message.specs.declared.reason_code.ReasonCode.{ReasonCode}
use Rattle.hs_message.specs.declared.reason_code.ReasonCode.TheVariants.{NoCommon, NotDecoded, Declined}

abbrev pub message_tag : MessageCode → Tag
message_tag Propose = record { elements = 2; number = 0 }
message_tag Accept = record { elements = 3; number = 1 }
message_tag Refuse = record { elements = 2; number = 2 }
message_tag QueryReply = record { elements = 2; number = 3 }

abbrev pub message_codes : List MessageCode
message_codes = Propose ∷ Accept ∷ Refuse ∷ QueryReply ∷ []

abbrev pub reason_tag : ReasonCode → Tag
reason_tag NoCommon = record { elements = 2; number = 0 }
reason_tag NotDecoded = record { elements = 3; number = 1 }
reason_tag Declined = record { elements = 3; number = 2 }

abbrev pub reason_codes : List ReasonCode
reason_codes = NoCommon ∷ NotDecoded ∷ Declined ∷ []

abbrev pub is_tag : Tag → Tag → Bool
is_tag one other = one.elements == other.elements && one.number == other.number

-- the one of some kinds that begins with the tag
abbrev pub kind_among : {Kind : Type 0} → (Kind → Tag) → List Kind → Tag → Option Kind
kind_among tag_of [] tag = None
kind_among tag_of (kind ∷ kinds) tag = if is_tag tag (tag_of kind) then Some kind else kind_among tag_of kinds tag

abbrev pub message_code_of : Tag → Option MessageCode
message_code_of tag = kind_among message_tag message_codes tag

abbrev pub reason_code_of : Tag → Option ReasonCode
reason_code_of tag = kind_among reason_tag reason_codes tag
