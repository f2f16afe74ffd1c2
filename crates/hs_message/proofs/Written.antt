-- What is written spells the message, and is read again.
use Rattle.std.proofs.Common.{◌≡◌, ℕ, ◌<◌, ◌^◌, Bool, true, false, cond, List, [], ◌∷◌, ◌++◌, length, refl, arith, inl, lit<}
use Rattle.std.specs.List.{flat_map, AllByRecursion}
use Rattle.cbor_items.specs.Head.{shortest_head}
use Rattle.cbor_items.specs.Definite.{IsNumber}
use Rattle.cbor_items.specs.Item.{IsPair, IsItem}
use Rattle.cbor_items.proofs.Turns.{definite_written, number_written, in_turn_written}
use Rattle.cbor_items.proofs.Meaning.{wider_by}
use Rattle.cbor_items.proofs.Fronts.{scan_again}
use Rattle.hs_message.specs.declared.info.VersionInfo.{VersionInfo}
use Rattle.hs_message.specs.declared.info.Info.{Info}
use Rattle.hs_message.specs.declared.info.Info.TheVariants.{Known, Foreign}
use Rattle.hs_message.specs.declared.offer.Offer.{Offer}
use Rattle.hs_message.specs.declared.message.Message.{Message}
use Rattle.hs_message.specs.declared.message.Message.TheVariants.{Propose, Accept, Refuse, QueryReply}
use Rattle.hs_message.specs.declared.message.Reason.{Reason}
use Rattle.hs_message.specs.declared.message.Reason.TheVariants.{NoCommon, NotDecoded, Declined}
use Rattle.hs_message.specs.Parts.{IsText}
use Rattle.hs_message.specs.Info.{IsInfo, IsVersionInfo, IsNodeInfo, IsClientVersionInfo, IsClientInfo}
use Rattle.hs_message.specs.Spelling.{IsOffer, IsTable, IsReason, IsMessage, Spells}
use Rattle.hs_message.specs.Canonical.{number_spelling, text_spelling, flag_spelling, array_spelling, info_spelling, offer_spelling, table_spelling, reason_spelling, message_spelling, version_info_spelling, node_spelling, client_info_spelling, client_spelling, IsOwnBy, IsOwnTableBy, CanWriteBy, IsNodeOwn, IsClientOwn}
use Rattle.hs_message.specs.Law.{FitsInfo, FitsTable, FitsReason, Fits, AreReadAgainIn, AreReadAgain, ClientsAreReadAgain}
use Rattle.hs_message.proofs.Items.{version_info_is_item, client_version_info_is_item, message_is_item}

-- ---- the parts

text_is : (text : List ℕ) → length text < 2 ^ 64 → IsText text (text_spelling text)
text_is text fits = record { first = shortest_head 3 (length text); second = text; joined = refl; is_first = definite_written 3 (length text) (lit< tt) fits; is_second = refl }

pair_is : {First Second : List ℕ → Type 0} (first second : List ℕ) → First first → Second second → IsPair First Second (first ++ second)
pair_is {First} {Second} first second one two = record { first = first; second = second; joined = refl; is_first = one; is_second = two }

bit_fits : (bit : Bool) → cond bit 1 0 < 2 ^ 64
bit_fits true = lit< tt
bit_fits false = lit< tt

pub version_info_is : (info : VersionInfo) → info.magic < 2 ^ 32 → IsVersionInfo info (version_info_spelling info)
version_info_is info fits = record {
  magic_fits = fits;
  is_array = pair_is (shortest_head 4 4) (number_spelling info.magic ++ (flag_spelling info.initiator_only ++ (number_spelling (cond info.sharing 1 0) ++ flag_spelling info.query)))
      (definite_written 4 4 (lit< tt) (lit< tt))
      (pair_is (number_spelling info.magic) (flag_spelling info.initiator_only ++ (number_spelling (cond info.sharing 1 0) ++ flag_spelling info.query))
      (number_written info.magic (omega arith))
      (pair_is (flag_spelling info.initiator_only) (number_spelling (cond info.sharing 1 0) ++ flag_spelling info.query) refl
      (pair_is (number_spelling (cond info.sharing 1 0)) (flag_spelling info.query) (inl (number_written (cond info.sharing 1 0) (bit_fits info.sharing))) refl)));
}

both_hold : {X : Type 0} (P Q : X → Type 0) (xs : List X) → AllByRecursion P xs → AllByRecursion Q xs → AllByRecursion (λ x. P x × Q x) xs
both_hold P Q [] p q = tt
both_hold P Q (x ∷ xs) p q = ((p.0, q.0), both_hold P Q xs p.1 q.1)

reason_is : (reason : Reason) → FitsReason reason → IsReason reason (reason_spelling reason)
reason_is (NoCommon versions) fits =
    pair_is (shortest_head 4 2) (number_spelling 0 ++ array_spelling (length versions) (flat_map number_spelling versions)) (definite_written 4 2 (lit< tt) (lit< tt))
    (pair_is (number_spelling 0) (array_spelling (length versions) (flat_map number_spelling versions)) (number_written 0 (lit< tt))
    (inl (pair_is (shortest_head 4 (length versions)) (flat_map number_spelling versions) (definite_written 4 (length versions) (lit< tt) fits.0)
    (in_turn_written IsNumber number_spelling (λ version. version < 2 ^ 64) number_written versions fits.1))))
reason_is (NotDecoded version text) fits =
    pair_is (shortest_head 4 3) (number_spelling 1 ++ (number_spelling version ++ text_spelling text)) (definite_written 4 3 (lit< tt) (lit< tt))
    (pair_is (number_spelling 1) (number_spelling version ++ text_spelling text) (number_written 1 (lit< tt))
    (pair_is (number_spelling version) (text_spelling text) (number_written version fits.0) (text_is text fits.1)))
reason_is (Declined version text) fits =
    pair_is (shortest_head 4 3) (number_spelling 2 ++ (number_spelling version ++ text_spelling text)) (definite_written 4 3 (lit< tt) (lit< tt))
    (pair_is (number_spelling 2) (number_spelling version ++ text_spelling text) (number_written 2 (lit< tt))
    (pair_is (number_spelling version) (text_spelling text) (number_written version fits.0) (text_is text fits.1)))

-- ---- messages

module _ (Own : ℕ → VersionInfo → Type 0) (spelled : VersionInfo → List ℕ) (Infos : ℕ → Info → List ℕ → Type 0)
    (known_is : (version : ℕ) (known : VersionInfo) → Own version known → known.magic < 2 ^ 32 → Infos version (Known known) (spelled known)) where
  -- what an offer is that can be written
  abbrev IsGood : Offer → Type 0
  IsGood offer = (offer.version < 2 ^ 64) × FitsInfo offer.info × IsOwnBy Own offer.version offer.info

  info_is : (version : ℕ) (info : Info) → FitsInfo info → IsOwnBy Own version info → Infos version info (info_spelling spelled info)
  info_is version (Known known) fits own = known_is version known own fits
  info_is version Foreign fits never = absurd never

  offer_is : (offer : Offer) → IsGood offer → IsOffer Infos offer (offer_spelling spelled offer)
  offer_is offer good = pair_is (number_spelling offer.version) (info_spelling spelled offer.info)
      (number_written offer.version good.0) (info_is offer.version offer.info good.1 good.2)

  good_offers : (table : List Offer) → AllByRecursion (λ offer. (offer.version < 2 ^ 64) × FitsInfo offer.info) table → AllByRecursion (λ offer. IsOwnBy Own offer.version offer.info) table
      → AllByRecursion IsGood table
  good_offers [] fits own = tt
  good_offers (offer ∷ table) fits own = ((fits.0.0, fits.0.1, own.0), good_offers table fits.1 own.1)

  table_is : (table : List Offer) → FitsTable table → IsOwnTableBy Own table → IsTable Infos table (table_spelling spelled table)
  table_is table fits own = record {
    rising = own.1;
    is_map = pair_is (shortest_head 5 (length table)) (flat_map (offer_spelling spelled) table) (definite_written 5 (length table) (lit< tt) fits.0)
        (in_turn_written (IsOffer Infos) (offer_spelling spelled) IsGood offer_is table (good_offers table fits.1 own.0));
  }

  pub message_is : (message : Message) → Fits message → CanWriteBy Own message → IsMessage Infos message (message_spelling spelled message)
  message_is (Propose table) fits can =
      pair_is (shortest_head 4 2) (number_spelling 0 ++ table_spelling spelled table) (definite_written 4 2 (lit< tt) (lit< tt))
      (pair_is (number_spelling 0) (table_spelling spelled table) (number_written 0 (lit< tt)) (table_is table fits can))
  message_is (Accept version info) fits can =
      pair_is (shortest_head 4 3) (number_spelling 1 ++ (number_spelling version ++ info_spelling spelled info)) (definite_written 4 3 (lit< tt) (lit< tt))
      (pair_is (number_spelling 1) (number_spelling version ++ info_spelling spelled info) (number_written 1 (lit< tt))
      (pair_is (number_spelling version) (info_spelling spelled info) (number_written version fits.0) (info_is version info fits.1 can)))
  message_is (Refuse reason) fits can =
      pair_is (shortest_head 4 2) (number_spelling 2 ++ reason_spelling reason) (definite_written 4 2 (lit< tt) (lit< tt))
      (pair_is (number_spelling 2) (reason_spelling reason) (number_written 2 (lit< tt)) (reason_is reason fits))
  message_is (QueryReply table) fits can =
      pair_is (shortest_head 4 2) (number_spelling 3 ++ table_spelling spelled table) (definite_written 4 2 (lit< tt) (lit< tt))
      (pair_is (number_spelling 3) (table_spelling spelled table) (number_written 3 (lit< tt)) (table_is table fits can))

module _ (Own : ℕ → VersionInfo → Type 0) (spelled : VersionInfo → List ℕ) (Understood : ℕ → VersionInfo → List ℕ → Type 0)
    (understood : (version : ℕ) (known : VersionInfo) → Own version known → known.magic < 2 ^ 32 → Understood version known (spelled known))
    (is_flat : (version : ℕ) (known : VersionInfo) → Own version known → known.magic < 2 ^ 32 → IsItem 1 (spelled known)) where
  -- a message of known infos has three levels at most
  written_is_item : (message : Message) → Fits message → CanWriteBy Own message → IsItem 64 (message_spelling spelled message)
  written_is_item message fits can =
      let Infos : ℕ → Info → List ℕ → Type 0 = λ version info bytes. IsItem 1 bytes in
      let is = message_is Own spelled Infos is_flat message fits can in
      wider_by 61 3 64 (message_spelling spelled message) refl
      (message_is_item Infos 0 (λ version info bytes item. item) message (message_spelling spelled message) is)

  known_info_is : (version : ℕ) (known : VersionInfo) → Own version known → known.magic < 2 ^ 32 → IsInfo Understood version (Known known) (spelled known)
  known_info_is version known own magic =
      (wider_by 63 1 64 (spelled known) refl (is_flat version known own magic), understood version known own magic)

  written_in : AreReadAgainIn (Spells Understood) (message_spelling spelled) (CanWriteBy Own)
  written_in message rest fits can =
      let item = written_is_item message fits can in (
        record { is_item = item; is_message = message_is Own spelled (IsInfo Understood) known_info_is message fits can },
        scan_again (message_spelling spelled message) rest item,
      )

-- ---- in each handshake

pub written_is_read : AreReadAgain
unfolding node_spelling
written_is_read = written_in IsNodeOwn version_info_spelling IsNodeInfo
    (λ version known own magic. (own, version_info_is known magic))
    (λ version known own magic. version_info_is_item 0 known (version_info_spelling known) (version_info_is known magic))

client_info_is : (info : VersionInfo) → info.initiator_only ≡ true → info.sharing ≡ false → info.magic < 2 ^ 32 → IsClientVersionInfo info (client_info_spelling info)
client_info_is info initiates unshared fits = record {
  magic_fits = fits;
  is_array = pair_is (shortest_head 4 2) (number_spelling info.magic ++ flag_spelling info.query) (definite_written 4 2 (lit< tt) (lit< tt))
      (pair_is (number_spelling info.magic) (flag_spelling info.query) (number_written info.magic (omega arith)) refl);
  initiates = initiates;
  unshared = unshared;
}

pub client_written_is_read : ClientsAreReadAgain
unfolding client_spelling
client_written_is_read = written_in IsClientOwn client_info_spelling IsClientInfo
    (λ version known own magic. (own.0, client_info_is known own.1 own.2 magic))
    (λ version known own magic. client_version_info_is_item 0 known (client_info_spelling known) (client_info_is known own.1 own.2 magic))
