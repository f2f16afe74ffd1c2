-- What an answer means.
use Rattle.std.proofs.Common.{◌≡◌, ℕ, List, Option, Some, None, MatchOption, sym, ◌∙◌}
use Rattle.warm_messages.specs.declared.alive.Alive.{Alive}
use Rattle.warm_messages.specs.declared.share.Share.{Share}
use Rattle.warm_messages.specs.Message.{SpellsAlive, SpellsShare}
use Rattle.warm_messages.specs.Reading.{alive_of, share_of}
use Rattle.cbor_items.specs.Item.{IsItem, level_limit}
use Rattle.warm_messages.specs.First.{HasFirstNumber, first_number_of, item_number_of}
use Rattle.warm_messages.proofs.Items.{first_spells, spelled_first, item_is_first}
use Rattle.warm_messages.proofs.Messages.{alive_spells, spelled_alive, share_spells, spelled_share}

pub alive_answered : (answer : Option Alive) (bytes : List ℕ) → answer ≡ alive_of bytes
    → MatchOption answer ((message : Alive) → SpellsAlive message bytes → ⊥) (λ message. SpellsAlive message bytes)
alive_answered (Some message) bytes e = alive_spells message bytes (sym e)
alive_answered None bytes e = λ message is. let both : ◌≡◌ {A = Option Alive} None (Some message) = e ∙ spelled_alive message bytes is in absurd cc

pub share_answered : (answer : Option Share) (bytes : List ℕ) → answer ≡ share_of bytes
    → MatchOption answer ((message : Share) → SpellsShare message bytes → ⊥) (λ message. SpellsShare message bytes)
share_answered (Some message) bytes e = share_spells message bytes (sym e)
share_answered None bytes e = λ message is. let both : ◌≡◌ {A = Option Share} None (Some message) = e ∙ spelled_share message bytes is in absurd cc

pub first_answered : (answer : Option ℕ) (bytes : List ℕ) → answer ≡ first_number_of bytes
    → MatchOption answer ((n : ℕ) → HasFirstNumber n bytes → ⊥) (λ n. HasFirstNumber n bytes)
first_answered (Some n) bytes e = first_spells n bytes (sym e)
first_answered None bytes e = λ n is. let both : ◌≡◌ {A = Option ℕ} None (Some n) = e ∙ spelled_first n bytes is in absurd cc

pub item_answered : (answer : Option ℕ) (bytes : List ℕ) → answer ≡ item_number_of bytes → IsItem level_limit bytes
    → MatchOption answer ((n : ℕ) → HasFirstNumber n bytes → ⊥) (λ n. HasFirstNumber n bytes)
item_answered answer bytes e item = first_answered answer bytes (e ∙ item_is_first bytes item)
