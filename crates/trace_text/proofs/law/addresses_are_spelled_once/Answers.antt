use Rattle.trace_text.proofs.AddressLaws.{address_of_only, address_of-printed}
use Rattle.trace_text.proofs.law.addresses_are_spelled_once.Goals as goal

pub returns-clause-printed : goal.returns-clause-printed
returns-clause-printed c = λ version word address e. (address_of_only version word address e).printed

pub returns-clause-within : goal.returns-clause-within
returns-clause-within c = λ version word address e. ((address_of_only version word address e).fits, (address_of_only version word address e).family)

pub returns-clause-read : goal.returns-clause-read
returns-clause-read c = address_of-printed
