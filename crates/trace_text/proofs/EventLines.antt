-- A printed event is one line.
use Rattle.std.proofs.Common.{◌≡◌, ◌≢◌, Bool, true, false, eqb, List, [], ◌∷◌, map, refl, arith}
use Rattle.std.specs.Prelude.{codes}
use Rattle.std.specs.List.{All, AllByRecursion, flat_map}
use Rattle.net_base.specs.declared.address.Addr.{Addr}
use Rattle.net_base.specs.declared.event.Event.{Event}
use Rattle.net_base.specs.declared.event.Event.TheVariants.{Now, Govern, Accepted, Dialed, Bytes, Closed, Aims, Locals, Roots, BigAims, Bigs}
use Rattle.net_base.specs.declared.event.Group.{Group}
use Rattle.net_base.specs.declared.event.RootAnswer.{RootAnswer}
use Rattle.net_base.specs.declared.event.RootAnswer.TheVariants.{Found, Failed}
use Rattle.trace_text.specs.Addresses.{printed_address}
use Rattle.trace_text.specs.EventTexts.{outcome_word, sign_word, group_words, answer_words, event_words, printed_event}
use Rattle.trace_text.proofs.ActionLaws.{OneLine, from_test, number_line, address_line, hex_line}
use Rattle.trace_text.proofs.Printed.{all_append, all_join, all_map, tested_apart}

addresses_lines : (members : List Addr) → AllByRecursion OneLine (map printed_address members)
addresses_lines = all_map OneLine printed_address address_line

outcome_line : (opened : Bool) → OneLine (outcome_word opened)
outcome_line true = from_test (codes "ok") refl
outcome_line false = from_test (codes "failed") refl

sign_line : (advertise : Bool) → OneLine (sign_word advertise)
sign_line true = from_test (codes "+") refl
sign_line false = from_test (codes "-") refl

groups_lines : (groups : List Group) → AllByRecursion OneLine (flat_map group_words groups)
groups_lines [] = tt
groups_lines (group ∷ groups) =
    all_append OneLine (group_words group) (flat_map group_words groups)
    (from_test (codes "/") refl, (number_line group.hot, (number_line group.warm, (sign_line group.advertise, addresses_lines group.members))))
    (groups_lines groups)

answer_lines : (answer : RootAnswer) → AllByRecursion OneLine (answer_words answer)
answer_lines (Found ttl members) = (outcome_line true, (number_line ttl, addresses_lines members))
answer_lines Failed = (outcome_line false, tt)

words_lines : (event : Event) → AllByRecursion OneLine (event_words event)
words_lines (Now t) = (from_test (codes "now") refl, (number_line t, tt))
words_lines (Govern word) = (from_test (codes "govern") refl, (number_line word, tt))
words_lines (Accepted address) = (from_test (codes "accepted") refl, (address_line address, tt))
words_lines (Dialed cid opened) = (from_test (codes "dialed") refl, (number_line cid.0, (outcome_line opened, tt)))
words_lines (Bytes cid bytes) = (from_test (codes "bytes") refl, (number_line cid.0, (hex_line bytes, tt)))
words_lines (Closed cid) = (from_test (codes "closed") refl, (number_line cid.0, tt))
words_lines (Aims t) = (from_test (codes "targets") refl, (number_line t.root, (number_line t.known, (number_line t.established, (number_line t.active, tt)))))
words_lines (Locals groups) = (from_test (codes "locals") refl, groups_lines groups)
words_lines (Roots job answer) = (from_test (codes "roots") refl, (number_line job.0, answer_lines answer))
words_lines (BigAims t) = (from_test (codes "bigtargets") refl, (number_line t.known, (number_line t.established, (number_line t.active, tt))))
words_lines (Bigs members) = (from_test (codes "bigs") refl, addresses_lines members)

-- no line feed stands in it
pub printed_event-no_feed : (event : Event) → All (λ b. eqb b 10 ≡ false) (printed_event event)
printed_event-no_feed event = tested_apart 10 (printed_event event) (all_join (λ b. b ≢ 10) 32 (λ e. omega arith) (event_words event) (words_lines event))
