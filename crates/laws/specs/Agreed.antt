-- What is agreed on in a handshake.
use Rattle.std.specs.Prelude.{◌≡◌, true, if◌then◌else◌, Option, Some, None}
use Rattle.laws.specs.Words.{option_and_then, is_negotiated, is_outbound, verdict_of, Acceptor, Dialer, Verdict, message_of, Item, Agreed, Facts, Settings, Machine, Entry, entry_at}
use Rattle.laws.specs.Words.verdict
use Rattle.laws.specs.Acts.{Act, handles_item}
use Rattle.laws.specs.CarriedOut.{WhereGreeting}
use Rattle.laws.specs.Ends.{offered}

abbrev pub agreement_of : Verdict → Option Agreed
agreement_of (verdict.Accept agreed) = Some agreed
agreement_of (verdict.Refuse why) = None
agreement_of verdict.Query = None
agreement_of (verdict.Agree agreed) = Some agreed
agreement_of verdict.Refused = None
agreement_of verdict.Wrong = None

-- what the message that came in and what this node offers agree on
abbrev pub agreement_in : Facts → Item → Settings → Option Agreed
agreement_in f item s =
    option_and_then (λ message. agreement_of (verdict_of (if is_outbound f then Dialer else Acceptor) (offered s) message)) (message_of item.body)

abbrev pub WhereNegotiated : Option Entry → (Entry → Type 0) → Type 0
WhereNegotiated None law = Unit {0}
WhereNegotiated (Some e) law = is_negotiated e.facts ≡ true → law e

-- A handshake that is done has that agreement: its version, its flow, and peer sharing where both sides said so.
abbrev pub AgreesRight : Act → Machine → Machine → Type 0
AgreesRight (handles_item own item) before after =
    WhereGreeting (entry_at own.0 before) (λ e. WhereNegotiated (entry_at own.0 after) (λ f. f.facts.agreed ≡ agreement_in e.facts item before.settings))
AgreesRight other before after = Unit {0}
