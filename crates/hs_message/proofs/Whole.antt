-- The message that is read off bytes is the one that they spell, all of them.
use Rattle.std.proofs.Common.{◌≡◌, ℕ, List, [], ◌++◌, Option, Some, None, Result, Ok, Err, refl, sym, ap, subst, ◌∙◌, inl, inr}
use Rattle.std.specs.Prelude.{IfOk}
use Rattle.std.proofs.lemmas.List.{append-nil}
use Rattle.cbor_items.specs.Item.{IsItem, level_limit}
use Rattle.cbor_items.specs.Front.{FindsBy}
use Rattle.cbor_items.specs.Scan.{is_one_item}
use Rattle.cbor_items.proofs.Skips.{chosen}
use Rattle.cbor_items.proofs.Meaning.{prefix_is_whole}
use Rattle.cbor_items.proofs.Fronts.{one_is_item, item_is_one}
use Rattle.hs_message.specs.declared.message.Message.{Message}
use Rattle.hs_message.specs.declared.refusal.ReadRefusal.{ReadRefusal}
use Rattle.hs_message.specs.declared.refusal.ReadRefusal.TheVariants.{NotAMessage}
use Rattle.hs_message.specs.declared.info.VersionInfo.{VersionInfo}
use Rattle.hs_message.specs.Info.{IsInfo, IsNodeInfo, IsClientInfo}
use Rattle.hs_message.specs.Spelling.{IsMessage, Spells, NodeSpells, ClientSpells}
use Rattle.hs_message.specs.Reading.{RefusalSays, Knowing, known_of, client_known_of, message_at, without_rest, message_with, message_of, client_message_of}
use Rattle.hs_message.specs.Law.{SpellOne, AreReadOff, ClientsSpellOne, ClientsAreReadOff, AreReadOffIn}
use Rattle.cbor_items.proofs.Readers.{bind_some, some_is}
use Rattle.hs_message.proofs.Messages.{Knows, knows_node, knows_client, reads_message}
use Rattle.hs_message.proofs.Items.{message_is_item}

module _ (Understood : ℕ → VersionInfo → List ℕ → Type 0) (known : Knowing) (knows : Knows Understood known) where
  whole_found : (bytes : List ℕ) (message : Message) → message_with known bytes ≡ Some message → Spells Understood message bytes
  unfolding message_with
  whole_found bytes message e =
      let Infos = IsInfo Understood in
      elim (chosen (is_one_item bytes) (without_rest (message_at known bytes)) None (Some message) e) [
        | inl (all, read) ↦
            let item = one_is_item bytes all in
            let b = bind_some (message_at known bytes) (λ (x : Message × List ℕ). Some x.0) message read in
            let f = (reads_message Understood known knows).found bytes b.0.0 b.0.1 b.1 in
            let short : IsItem 66 f.front = message_is_item Infos 63 (λ version info item is. is.0) b.0.0 f.front f.is in
            let none : b.0.1 ≡ [] = prefix_is_whole 66 64 f.front b.0.1 short (subst (IsItem level_limit) f.joined item) in
            let front : f.front ≡ bytes = sym (f.joined ∙ ap (λ (x : List ℕ). f.front ++ x) none ∙ append-nil f.front) in
            record { is_item = item; is_message = subst (λ (m : Message). IsMessage Infos m bytes) (some_is b.0.0 message b.2) (subst (IsMessage Infos b.0.0) front f.is) }
        | inr (other, read) ↦ absurd cc
      ]

  whole_again : (bytes : List ℕ) (message : Message) → Spells Understood message bytes → message_with known bytes ≡ Some message
  unfolding message_with
  whole_again bytes message is =
      let read : message_at known bytes ≡ Some (message, []) =
      ap (message_at known) (sym (append-nil bytes)) ∙ (reads_message Understood known knows).again message bytes [] is.is_message in
      rw (item_is_one bytes is.is_item, read) refl

-- ---- in each handshake

pub message_found : (bytes : List ℕ) (message : Message) → message_of bytes ≡ Some message → NodeSpells message bytes
unfolding message_of
message_found bytes message e = whole_found IsNodeInfo known_of knows_node bytes message e

pub message_again : (bytes : List ℕ) (message : Message) → NodeSpells message bytes → message_of bytes ≡ Some message
unfolding message_of
message_again bytes message is = whole_again IsNodeInfo known_of knows_node bytes message is

pub client_message_found : (bytes : List ℕ) (message : Message) → client_message_of bytes ≡ Some message → ClientSpells message bytes
unfolding client_message_of
client_message_found bytes message e = whole_found IsClientInfo client_known_of knows_client bytes message e

pub client_message_again : (bytes : List ℕ) (message : Message) → ClientSpells message bytes → client_message_of bytes ≡ Some message
unfolding client_message_of
client_message_again bytes message is = whole_again IsClientInfo client_known_of knows_client bytes message is

pub spell_one : SpellOne
spell_one bytes one two first second = some_is one two (sym (message_again bytes one first) ∙ message_again bytes two second)

pub are_read_off : AreReadOff
are_read_off bytes message = (message_found bytes message, message_again bytes message)

pub clients_spell_one : ClientsSpellOne
clients_spell_one bytes one two first second = some_is one two (sym (client_message_again bytes one first) ∙ client_message_again bytes two second)

pub clients_are_read_off : ClientsAreReadOff
clients_are_read_off bytes message = (client_message_found bytes message, client_message_again bytes message)

-- ---- what is answered

module _ (Spelled : Message → List ℕ → Type 0) (read : List ℕ → Option Message) (read_off : AreReadOffIn Spelled read) where
  pub is_found : (bytes : List ℕ) (answer : Result Message ReadRefusal) → FindsBy RefusalSays (λ message. message) answer (read bytes) → IfOk answer (λ message. Spelled message bytes)
  is_found bytes (Ok message) given = (read_off bytes message).0 given
  is_found bytes (Err refusal) given = tt

  pub is_none : (bytes : List ℕ) (answer : Result Message ReadRefusal) → FindsBy RefusalSays (λ message. message) answer (read bytes) → answer ≡ Err NotAMessage
      → (message : Message) → Spelled message bytes → ⊥
  is_none bytes answer given is message spelled =
      let none : read bytes ≡ None = subst (λ (a : Result Message ReadRefusal). FindsBy RefusalSays (λ message. message) a (read bytes)) is given in
      let some = (read_off bytes message).1 spelled in
      absurd cc
