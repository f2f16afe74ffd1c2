-- Messages are items, with two levels more than their infos.
use Rattle.std.proofs.Common.{ℕ, suc, Bool, true, false, cond, List, [], ◌∷◌, ◌++◌, length, refl, sym, ap, subst, ◌∙◌, arith, inl, inr}
use Rattle.std.proofs.lemmas.List.{append-nil}
use Rattle.cbor_items.specs.Head.{head_of}
use Rattle.cbor_items.specs.Definite.{IsNumber}
use Rattle.cbor_items.specs.Item.{IsPair, AreInTurn, IsRow, IsRowToBreak, IsFlat, alone, string, array, open_array, map, IsItem}
use Rattle.cbor_items.proofs.Turns.{flat_is_item, number_is_item, in_turn_is_row}
use Rattle.cbor_items.proofs.Meaning.{wider_by}
use Rattle.hs_message.specs.declared.info.VersionInfo.{VersionInfo}
use Rattle.hs_message.specs.declared.info.Info.{Info}
use Rattle.hs_message.specs.declared.offer.Offer.{Offer}
use Rattle.hs_message.specs.declared.message.Message.{Message}
use Rattle.hs_message.specs.declared.message.Message.TheVariants.{Propose, Accept, Refuse, QueryReply}
use Rattle.hs_message.specs.declared.message.Reason.{Reason}
use Rattle.hs_message.specs.declared.message.Reason.TheVariants.{NoCommon, NotDecoded, Declined}
use Rattle.hs_message.specs.Parts.{IsText, IsDefiniteArray, IsOpenArray, IsMap, flag_byte, IsFlag}
use Rattle.hs_message.specs.Info.{IsSharing, IsVersionInfo, IsClientVersionInfo}
use Rattle.hs_message.specs.Spelling.{IsOffer, IsTable, IsVersionList, IsReason, IsMessage}

-- ---- the parts

pub text_is_item : (depth : ℕ) (text bytes : List ℕ) → IsText text bytes → IsItem depth bytes
text_is_item depth text bytes p =
    let d = p.is_first in
    flat_is_item depth bytes (string {major = 3} refl (record {
      head = d.head;
      spelled = p.first;
      content = p.second;
      joined = p.joined;
      is_head = d.is_head;
      is_major = d.is_major;
      definite = d.definite;
      is_content = ap length p.is_second ∙ sym d.is_value;
    }))

flag_is_flat : (flag : Bool) → IsFlat (flag_byte flag ∷ [])
flag_is_flat false = alone {head = head_of 0xf4 []} (record { initial = 0xf4; argument = []; joined = refl; begins = refl; whole = refl; follows = refl; is = refl }) refl refl
flag_is_flat true = alone {head = head_of 0xf5 []} (record { initial = 0xf5; argument = []; joined = refl; begins = refl; whole = refl; follows = refl; is = refl }) refl refl

pub flag_is_item : (depth : ℕ) (flag : Bool) (bytes : List ℕ) → IsFlag flag bytes → IsItem depth bytes
flag_is_item depth flag bytes is = flat_is_item depth bytes (subst IsFlat (sym is) (flag_is_flat flag))

sharing_is_item : (depth : ℕ) (sharing : Bool) (bytes : List ℕ) → IsSharing sharing bytes → IsItem depth bytes
sharing_is_item depth sharing bytes (inl number) = number_is_item depth (cond sharing 1 0) bytes number
sharing_is_item depth sharing bytes (inr flag) = flag_is_item depth sharing bytes flag

-- ---- rows

row_of_one : (Thing : List ℕ → Type 0) (bytes : List ℕ) → Thing bytes → IsRow Thing 1 bytes
row_of_one Thing bytes is = record { first = bytes; second = []; joined = sym (append-nil bytes); is_first = is; is_second = refl }

row_more : (Thing First Second : List ℕ → Type 0) (n : ℕ) (bytes : List ℕ) → ((x : List ℕ) → First x → Thing x) → ((x : List ℕ) → Second x → IsRow Thing n x)
    → IsPair First Second bytes → IsRow Thing (suc n) bytes
row_more Thing First Second n bytes one others p =
    record { first = p.first; second = p.second; joined = p.joined; is_first = one p.first p.is_first; is_second = others p.second p.is_second }

-- ---- arrays and maps

array_is_item : (depth count : ℕ) (Elements : List ℕ → Type 0) (bytes : List ℕ) → ((x : List ℕ) → Elements x → IsRow (IsItem depth) count x)
    → IsDefiniteArray count Elements bytes → IsItem (suc depth) bytes
unfolding IsItem
array_is_item depth count Elements bytes row p =
    let d = p.is_first in
    let row' = subst (λ (n : ℕ). IsRow (IsItem depth) n p.second) (sym d.is_value) (row p.second p.is_second) in
    subst (IsItem (suc depth)) (sym p.joined) (inr (array p.first p.second d.is_head d.is_major d.definite row'))

map_is_item : (depth count : ℕ) (Entries : List ℕ → Type 0) (bytes : List ℕ) → ((x : List ℕ) → Entries x → IsRow (IsPair (IsItem depth) (IsItem depth)) count x)
    → IsMap count Entries bytes → IsItem (suc depth) bytes
unfolding IsItem
map_is_item depth count Entries bytes row p =
    let d = p.is_first in
    let row' = subst (λ (n : ℕ). IsRow (IsPair (IsItem depth) (IsItem depth)) n p.second) (sym d.is_value) (row p.second p.is_second) in
    subst (IsItem (suc depth)) (sym p.joined) (inr (map p.first p.second d.is_head d.is_major d.definite row'))

open_array_is_item : (depth count : ℕ) (Elements : List ℕ → Type 0) (bytes : List ℕ) → ((x : List ℕ) → Elements x → IsRow (IsItem depth) count x)
    → IsOpenArray Elements bytes → IsItem (suc depth) bytes
unfolding IsItem
open_array_is_item depth count Elements bytes row p =
    let d = p.is_first in
    let elements = p.is_second in
    let to_break : IsRowToBreak (IsItem depth) p.second = record {
      count = count;
      things = elements.first;
      joined = elements.joined ∙ ap (λ (x : List ℕ). elements.first ++ x) elements.is_second;
      is_row = row elements.first elements.is_first;
    } in
    subst (IsItem (suc depth)) (sym p.joined) (inr (open_array p.first p.second d.is_head d.is_major d.indefinite to_break))

-- ---- messages

pub version_info_is_item : (depth : ℕ) (info : VersionInfo) (bytes : List ℕ) → IsVersionInfo info bytes → IsItem (suc depth) bytes
version_info_is_item depth info bytes is =
    let Item = IsItem depth in
    array_is_item depth 4 (IsPair (IsNumber info.magic) (IsPair (IsFlag info.initiator_only) (IsPair (IsSharing info.sharing) (IsFlag info.query)))) bytes
    (λ w. row_more Item (IsNumber info.magic) (IsPair (IsFlag info.initiator_only) (IsPair (IsSharing info.sharing) (IsFlag info.query))) 3 w (number_is_item depth info.magic)
    (λ x. row_more Item (IsFlag info.initiator_only) (IsPair (IsSharing info.sharing) (IsFlag info.query)) 2 x (flag_is_item depth info.initiator_only)
    (λ y. row_more Item (IsSharing info.sharing) (IsFlag info.query) 1 y (sharing_is_item depth info.sharing)
    (λ z flag. row_of_one Item z (flag_is_item depth info.query z flag)))))
    is.is_array

-- an array of two, of which the first is a number
pair_is_item : (depth tag : ℕ) (Rest : List ℕ → Type 0) (bytes : List ℕ) → ((x : List ℕ) → Rest x → IsItem depth x)
    → IsDefiniteArray 2 (IsPair (IsNumber tag) Rest) bytes → IsItem (suc depth) bytes
pair_is_item depth tag Rest bytes to p =
    array_is_item depth 2 (IsPair (IsNumber tag) Rest) bytes
    (λ x. row_more (IsItem depth) (IsNumber tag) Rest 1 x (number_is_item depth tag) (λ y is. row_of_one (IsItem depth) y (to y is))) p

pub client_version_info_is_item : (depth : ℕ) (info : VersionInfo) (bytes : List ℕ) → IsClientVersionInfo info bytes → IsItem (suc depth) bytes
client_version_info_is_item depth info bytes is = pair_is_item depth info.magic (IsFlag info.query) bytes (flag_is_item depth info.query) is.is_array

-- an array of three, of which the first two are numbers
triple_is_item : (depth tag version : ℕ) (Rest : List ℕ → Type 0) (bytes : List ℕ) → ((x : List ℕ) → Rest x → IsItem depth x)
    → IsDefiniteArray 3 (IsPair (IsNumber tag) (IsPair (IsNumber version) Rest)) bytes → IsItem (suc depth) bytes
triple_is_item depth tag version Rest bytes to p =
    array_is_item depth 3 (IsPair (IsNumber tag) (IsPair (IsNumber version) Rest)) bytes
    (λ w. row_more (IsItem depth) (IsNumber tag) (IsPair (IsNumber version) Rest) 2 w (number_is_item depth tag)
    (λ x. row_more (IsItem depth) (IsNumber version) Rest 1 x (number_is_item depth version) (λ y is. row_of_one (IsItem depth) y (to y is)))) p

versions_are_item : (depth : ℕ) (versions bytes : List ℕ) → IsVersionList versions bytes → IsItem (suc depth) bytes
versions_are_item depth versions bytes (inl p) =
    array_is_item depth (length versions) (AreInTurn IsNumber versions) bytes (λ x. in_turn_is_row (IsItem depth) IsNumber (number_is_item depth) versions x) p
versions_are_item depth versions bytes (inr p) =
    open_array_is_item depth (length versions) (AreInTurn IsNumber versions) bytes (λ x. in_turn_is_row (IsItem depth) IsNumber (number_is_item depth) versions x) p

reason_is_item : (depth : ℕ) (reason : Reason) (bytes : List ℕ) → IsReason reason bytes → IsItem (suc (suc depth)) bytes
reason_is_item depth (NoCommon versions) bytes p = pair_is_item (suc depth) 0 (IsVersionList versions) bytes (versions_are_item depth versions) p
reason_is_item depth (NotDecoded version text) bytes p = triple_is_item (suc depth) 1 version (IsText text) bytes (text_is_item (suc depth) text) p
reason_is_item depth (Declined version text) bytes p = triple_is_item (suc depth) 2 version (IsText text) bytes (text_is_item (suc depth) text) p

module _ (Infos : ℕ → Info → List ℕ → Type 0) (depth : ℕ) (items : (version : ℕ) (info : Info) (bytes : List ℕ) → Infos version info bytes → IsItem (suc depth) bytes) where
  table_is_item : (table : List Offer) (bytes : List ℕ) → IsTable Infos table bytes → IsItem (suc (suc depth)) bytes
  table_is_item table bytes is =
      let Item = IsItem (suc depth) in
      map_is_item (suc depth) (length table) (AreInTurn (IsOffer Infos) table) bytes
      (λ x. in_turn_is_row (IsPair Item Item) (IsOffer Infos) (λ offer y p. record {
        first = p.first;
        second = p.second;
        joined = p.joined;
        is_first = number_is_item (suc depth) offer.version p.first p.is_first;
        is_second = items offer.version offer.info p.second p.is_second;
      }) table x) is.is_map

  pub message_is_item : (message : Message) (bytes : List ℕ) → IsMessage Infos message bytes → IsItem (suc (suc (suc depth))) bytes
  message_is_item (Propose table) bytes p = pair_is_item (suc (suc depth)) 0 (IsTable Infos table) bytes (table_is_item table) p
  message_is_item (Accept version info) bytes p =
      let deeper = λ (x : List ℕ) (is : Infos version info x). wider_by 1 (suc depth) (suc (suc depth)) x (omega arith) (items version info x is) in
      triple_is_item (suc (suc depth)) 1 version (Infos version info) bytes deeper p
  message_is_item (Refuse reason) bytes p = pair_is_item (suc (suc depth)) 2 (IsReason reason) bytes (reason_is_item depth reason) p
  message_is_item (QueryReply table) bytes p = pair_is_item (suc (suc depth)) 3 (IsTable Infos table) bytes (table_is_item table) p
