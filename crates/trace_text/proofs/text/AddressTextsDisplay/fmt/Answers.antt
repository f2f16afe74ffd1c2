use Rattle.std.proofs.Common.{ℕ, List, ◌∷◌, rules, ◌∙◌, ap}
use Rattle.std.specs.List.{flat_map}
use Rattle.std.proofs.Output.{has_written_of_eq, has_written_append}
use Rattle.std.proofs.lemmas.List.{take_all}
use Rattle.net_base.specs.declared.address.Addr.{Addr}
use Rattle.net_base.specs.declared.address.Ip.TheVariants.{V4}
use Rattle.trace_text.specs.Addresses.{printed_address}
use Rattle.trace_text.proofs.SpacedWords.{items_more, spaced-map}
use Rattle.trace_text.proofs.text.AddressTextsDisplay.fmt.Goals as goal

abbrev behind_space : Addr → List ℕ
behind_space a = 32 ∷ printed_address a

-- what a read past the end would give
abbrev no_address : Addr
no_address = record { ip = V4 0; port = 0 }

pub loop-address-preserved : goal.loop-address-preserved
loop-address-preserved g c = λ plain.
    has_written_of_eq _ _ _ _ _
    (items_more behind_space c.args.self.now.0.now c.loop-address.address-index no_address c.loop-address-test.true)
    (has_written_append _ _ _ _ _ _ (c.loop-address.invariant plain) (search rules))

pub returns-clause-writes : goal.returns-clause-writes
returns-clause-writes g c = λ plain ok.
    let addresses = c.args.self.now.0.now in
    has_written_of_eq _ _ _ _ _
    (ap (flat_map behind_space) (take_all c.loop-address.address-index addresses c.loop-address-test.false) ∙ spaced-map printed_address addresses)
    (c.loop-address.invariant plain)
