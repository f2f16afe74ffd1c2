-- Reading messages: what is read is spelled so, and what is spelled so is read.
use Rattle.std.proofs.Common.{◌≡◌, ℕ, ◌<◌, ◌^◌, Bool, true, false, cond, eqb, ltb, not, List, [], ◌∷◌, ◌++◌, length, Option, Some, None, refl, sym, ap, subst, ◌∙◌, append_assoc, inl, inr}
use Rattle.std.proofs.lemmas.Bool.{ltb-true, lt-ltb, eqb-true, and_parts}
use Rattle.std.proofs.lemmas.List.{append-nil}
use Rattle.cbor_items.specs.declared.head.Head.{Head}
use Rattle.cbor_items.specs.Head.{IsHead}
use Rattle.cbor_items.specs.Item.{IsPair}
use Rattle.cbor_items.proofs.Skips.{HasFront, chosen}
use Rattle.hs_message.specs.declared.info.VersionInfo.{VersionInfo}
use Rattle.hs_message.specs.declared.info.Info.{Info}
use Rattle.hs_message.specs.declared.info.Info.TheVariants.{Known, Foreign}
use Rattle.hs_message.specs.declared.offer.Offer.{Offer}
use Rattle.hs_message.specs.declared.message.Message.{Message}
use Rattle.hs_message.specs.declared.message.Message.TheVariants.{Propose, Accept, Refuse, QueryReply}
use Rattle.hs_message.specs.declared.message.Reason.{Reason}
use Rattle.hs_message.specs.declared.message.Reason.TheVariants.{NoCommon, NotDecoded, Declined}
use Rattle.cbor_items.specs.Definite.{IsDefinite, IsNumber}
use Rattle.cbor_items.specs.Front.{Reader, ◌>>=◌, whole, any_head_at, definite_at, number_at}
use Rattle.cbor_items.proofs.Readers.{Reads, bind_some, guard_some, some_is, whole_found, reads_any_head, reads_definite, reads_number, number_is_plain}
use Rattle.hs_message.specs.Parts.{IsIndefinite, IsDefiniteArray}
use Rattle.hs_message.specs.Info.{IsInfo, IsUnderstoodAs, is_node_version, IsVersionInfo, IsNodeInfo, is_client_version, IsClientVersionInfo, IsClientInfo}
use Rattle.hs_message.specs.Spelling.{rises, IsOffer, IsTable, IsVersionList, IsReason, IsMessage}
use Rattle.hs_message.specs.declared.tag.Tag.{Tag}
use Rattle.hs_message.specs.declared.message_code.MessageCode.{MessageCode}
use Rattle.hs_message.specs.declared.message_code.MessageCode.TheVariants as message_code
use Rattle.hs_message.specs.declared.reason_code.ReasonCode.{ReasonCode}
use Rattle.hs_message.specs.declared.reason_code.ReasonCode.TheVariants as reason_code
use Rattle.hs_message.specs.Codes.{message_tag, message_codes, reason_tag, reason_codes, is_tag, kind_among, message_code_of, reason_code_of}
use Rattle.hs_message.specs.Reading.{definite_array_at, flag_at, sharing_at, magic_at, version_info_at, known_of, client_version_info_at, client_known_of, Knowing, as_info, info_of, item_at, offer_at, row_at, table_at, row_to_break_at, version_row_at, version_list_at, tag_at, noted_at, reason_behind, reason_at, message_behind, message_at}
use Rattle.hs_message.proofs.Fronts.{pair_front, front_as, pair_parts, array_found, array_again, reads_flag, reads_sharing, reads_item, row_found, row_again, closed_found, closed_again, IsTag, tag_with, reads_tag, reads_noted}

-- ---- what stands beside a version

abbrev info_with : ℕ → Bool → Bool → Bool → VersionInfo
info_with magic initiator_only sharing query = record { magic = magic; initiator_only = initiator_only; sharing = sharing; query = query }

-- a magic is a number that fits
magic_found : (bytes : List ℕ) (magic : ℕ) (rest : List ℕ) → magic_at bytes ≡ Some (magic, rest) → HasFront (IsNumber magic) bytes rest × (magic < 2 ^ 32)
unfolding magic_at
magic_found bytes magic rest e =
    let a = bind_some (number_at bytes) (λ (read : ℕ × List ℕ). cond (ltb read.0 (2 ^ 32)) (Some read) None) (magic, rest) e in
    let g = guard_some (ltb a.0.0 (2 ^ 32)) a.0 (magic, rest) a.2 in
    subst (λ (p : ℕ × List ℕ). HasFront (IsNumber p.0) bytes p.1 × (p.0 < 2 ^ 32)) g.1 (reads_number.found bytes a.0.0 a.0.1 a.1, ltb-true _ _ g.0)

magic_again : (magic : ℕ) (front rest : List ℕ) → IsNumber magic front → magic < 2 ^ 32 → magic_at (front ++ rest) ≡ Some (magic, rest)
unfolding magic_at
magic_again magic front rest is fits = rw (reads_number.again magic front rest is, lt-ltb _ _ fits) refl

-- the five parts one behind the other
info_from : (bytes elements a b c d : List ℕ) (magic : ℕ) (initiator_only sharing query : Bool)
    → definite_array_at 4 bytes ≡ Some elements → magic_at elements ≡ Some (magic, a) → flag_at a ≡ Some (initiator_only, b) → sharing_at b ≡ Some (sharing, c) → flag_at c ≡ Some (query, d)
    → HasFront (IsVersionInfo (info_with magic initiator_only sharing query)) bytes d
info_from bytes elements a b c d magic initiator_only sharing query zeroth first second third fourth =
    let found = magic_found elements magic a first in
    let stands = pair_front (array_found 4 bytes elements zeroth) (pair_front found.0
    (pair_front (reads_flag.found a initiator_only b second) (pair_front (reads_sharing.found b sharing c third) (reads_flag.found c query d fourth)))) in
    record { front = stands.front; joined = stands.joined; is = record { magic_fits = found.1; is_array = stands.is } }

info_found : (bytes : List ℕ) (info : VersionInfo) (rest : List ℕ) → version_info_at bytes ≡ Some (info, rest) → HasFront (IsVersionInfo info) bytes rest
unfolding version_info_at
info_found bytes info rest e =
    let a = bind_some (definite_array_at 4 bytes) (λ (elements : List ℕ).
    magic_at elements >>= λ magic. flag_at magic.1 >>= λ initiator_only. sharing_at initiator_only.1 >>= λ sharing. flag_at sharing.1 >>= λ query.
    Some (info_with magic.0 initiator_only.0 sharing.0 query.0, query.1)) (info, rest) e in
    let b = bind_some (magic_at a.0) (λ (magic : ℕ × List ℕ).
    flag_at magic.1 >>= λ initiator_only. sharing_at initiator_only.1 >>= λ sharing. flag_at sharing.1 >>= λ query.
    Some (info_with magic.0 initiator_only.0 sharing.0 query.0, query.1)) (info, rest) a.2 in
    let c = bind_some (flag_at b.0.1) (λ (initiator_only : Bool × List ℕ).
    sharing_at initiator_only.1 >>= λ sharing. flag_at sharing.1 >>= λ query.
    Some (info_with b.0.0 initiator_only.0 sharing.0 query.0, query.1)) (info, rest) b.2 in
    let d = bind_some (sharing_at c.0.1) (λ (sharing : Bool × List ℕ).
    flag_at sharing.1 >>= λ query. Some (info_with b.0.0 c.0.0 sharing.0 query.0, query.1)) (info, rest) c.2 in
    let q = bind_some (flag_at d.0.1) (λ (query : Bool × List ℕ). Some (info_with b.0.0 c.0.0 d.0.0 query.0, query.1)) (info, rest) d.2 in
    subst (λ (p : VersionInfo × List ℕ). HasFront (IsVersionInfo p.0) bytes p.1) (some_is _ _ q.2)
    (info_from bytes a.0 b.0.1 c.0.1 d.0.1 q.0.1 b.0.0 c.0.0 d.0.0 q.0.0 a.1 b.1 c.1 d.1 q.1)

info_again : (info : VersionInfo) (front rest : List ℕ) → IsVersionInfo info front → version_info_at (front ++ rest) ≡ Some (info, rest)
unfolding version_info_at
info_again info front rest is =
    let elements = is.is_array.is_second in
    let behind_magic = elements.is_second in
    let behind_initiator = behind_magic.is_second in
    let one : front ++ rest ≡ is.is_array.first ++ (elements.first ++ (behind_magic.first ++ (behind_initiator.first ++ (behind_initiator.second ++ rest)))) =
    pair_parts is.is_array rest
    ∙ ap (λ (x : List ℕ). is.is_array.first ++ x) (pair_parts elements rest
    ∙ ap (λ (x : List ℕ). elements.first ++ x) (pair_parts behind_magic rest
    ∙ ap (λ (x : List ℕ). behind_magic.first ++ x) (pair_parts behind_initiator rest))) in
    ap version_info_at one
    ∙ rw (
      array_again 4 is.is_array.first (elements.first ++ (behind_magic.first ++ (behind_initiator.first ++ (behind_initiator.second ++ rest)))) is.is_array.is_first,
      magic_again info.magic elements.first (behind_magic.first ++ (behind_initiator.first ++ (behind_initiator.second ++ rest))) elements.is_first is.magic_fits,
      reads_flag.again info.initiator_only behind_magic.first (behind_initiator.first ++ (behind_initiator.second ++ rest)) behind_magic.is_first,
      reads_sharing.again info.sharing behind_initiator.first (behind_initiator.second ++ rest) behind_initiator.is_first,
      reads_flag.again info.query behind_initiator.second rest behind_initiator.is_second,
    ) refl

client_info_found : (bytes : List ℕ) (info : VersionInfo) (rest : List ℕ) → client_version_info_at bytes ≡ Some (info, rest) → HasFront (IsClientVersionInfo info) bytes rest
unfolding client_version_info_at
client_info_found bytes info rest e =
    let made : ℕ → Bool → VersionInfo = λ magic query. info_with magic true false query in
    let a = bind_some (definite_array_at 2 bytes) (λ (elements : List ℕ).
    magic_at elements >>= λ magic. flag_at magic.1 >>= λ query. Some (made magic.0 query.0, query.1)) (info, rest) e in
    let b = bind_some (magic_at a.0) (λ (magic : ℕ × List ℕ). flag_at magic.1 >>= λ query. Some (made magic.0 query.0, query.1)) (info, rest) a.2 in
    let c = bind_some (flag_at b.0.1) (λ (query : Bool × List ℕ). Some (made b.0.0 query.0, query.1)) (info, rest) b.2 in
    let magic = magic_found a.0 b.0.0 b.0.1 b.1 in
    let parts = pair_front (array_found 2 bytes a.0 a.1) (pair_front magic.0 (reads_flag.found b.0.1 c.0.0 c.0.1 c.1)) in
    let stands : HasFront (IsClientVersionInfo (made b.0.0 c.0.0)) bytes c.0.1 = record {
      front = parts.front;
      joined = parts.joined;
      is = record { magic_fits = magic.1; is_array = parts.is; initiates = refl; unshared = refl };
    } in
    subst (λ (p : VersionInfo × List ℕ). HasFront (IsClientVersionInfo p.0) bytes p.1) (some_is _ _ c.2) stands

client_info_again : (info : VersionInfo) (front rest : List ℕ) → IsClientVersionInfo info front → client_version_info_at (front ++ rest) ≡ Some (info, rest)
unfolding client_version_info_at
client_info_again info front rest is =
    let elements = is.is_array.is_second in
    let one : front ++ rest ≡ is.is_array.first ++ (elements.first ++ (elements.second ++ rest)) =
    pair_parts is.is_array rest ∙ ap (λ (x : List ℕ). is.is_array.first ++ x) (pair_parts elements rest) in
    let same : Some (info_with info.magic true false info.query, rest) ≡ Some (info, rest) =
    ap (λ (i : Bool). Some (info_with info.magic i false info.query, rest)) (sym is.initiates)
    ∙ ap (λ (s : Bool). Some (info_with info.magic info.initiator_only s info.query, rest)) (sym is.unshared) in
    ap client_version_info_at one
    ∙ rw (
      array_again 2 is.is_array.first (elements.first ++ (elements.second ++ rest)) is.is_array.is_first,
      magic_again info.magic elements.first (elements.second ++ rest) elements.is_first is.magic_fits,
      reads_flag.again info.query elements.second rest elements.is_second,
    ) same

reads_info : Reads IsVersionInfo version_info_at
reads_info = record { found = info_found; again = info_again }

reads_client_info : Reads IsClientVersionInfo client_version_info_at
reads_client_info = record { found = client_info_found; again = client_info_again }

-- an info that is the whole item beside a version of its own
module _ (is_own : ℕ → Bool) (Is : VersionInfo → List ℕ → Type 0) (info_at : Reader VersionInfo) (reads : Reads Is info_at) where
  own_found : (version : ℕ) (item : List ℕ) (known : VersionInfo) → cond (is_own version) (whole (info_at item)) None ≡ Some known → (is_own version ≡ true) × Is known item
  own_found version item known e =
      elim (chosen (is_own version) (whole (info_at item)) None (Some known) e) [
        | inl (own, is) ↦
            let f = reads.found item known [] (whole_found (info_at item) known is) in
            let all : f.front ≡ item = sym (append-nil f.front) ∙ sym f.joined in
            (own, subst (Is known) all f.is)
        | inr (other, is) ↦ absurd cc
      ]

  own_again : (version : ℕ) (item : List ℕ) (known : VersionInfo) → (is_own version ≡ true) × Is known item → cond (is_own version) (whole (info_at item)) None ≡ Some known
  own_again version item known (own, is) =
      let read : info_at item ≡ Some (known, []) = ap info_at (sym (append-nil item)) ∙ reads.again known item [] is in
      rw (own, read) refl

node_found : (version : ℕ) (item : List ℕ) (known : VersionInfo) → known_of version item ≡ Some known → IsNodeInfo version known item
unfolding known_of
node_found version item known e = own_found is_node_version IsVersionInfo version_info_at reads_info version item known e

node_again : (version : ℕ) (item : List ℕ) (known : VersionInfo) → IsNodeInfo version known item → known_of version item ≡ Some known
unfolding known_of
node_again version item known is = own_again is_node_version IsVersionInfo version_info_at reads_info version item known is

client_found : (version : ℕ) (item : List ℕ) (known : VersionInfo) → client_known_of version item ≡ Some known → IsClientInfo version known item
unfolding client_known_of
client_found version item known e = own_found is_client_version IsClientVersionInfo client_version_info_at reads_client_info version item known e

client_again : (version : ℕ) (item : List ℕ) (known : VersionInfo) → IsClientInfo version known item → client_known_of version item ≡ Some known
unfolding client_known_of
client_again version item known is = own_again is_client_version IsClientVersionInfo client_version_info_at reads_client_info version item known is

-- What an item beside a version is known as is what it is understood as.
pub record Knows (Understood : ℕ → VersionInfo → List ℕ → Type 0) (known : Knowing) : Type 0 where
  pub found : (version : ℕ) (item : List ℕ) (info : VersionInfo) → known version item ≡ Some info → Understood version info item
  pub again : (version : ℕ) (item : List ℕ) (info : VersionInfo) → Understood version info item → known version item ≡ Some info

pub knows_node : Knows IsNodeInfo known_of
knows_node = record { found = node_found; again = node_again }

pub knows_client : Knows IsClientInfo client_known_of
knows_client = record { found = client_found; again = client_again }

module _ (Understood : ℕ → VersionInfo → List ℕ → Type 0) (known : Knowing) (knows : Knows Understood known) where
  understood : (version : ℕ) (item : List ℕ) (read : Option VersionInfo) → known version item ≡ read → IsUnderstoodAs Understood version (as_info read) item
  understood version item (Some info) e = knows.found version item info e
  understood version item None e = λ info is. let read = knows.again version item info is in absurd cc

  info_only : (version : ℕ) (info : Info) (item : List ℕ) (read : Option VersionInfo) → known version item ≡ read → IsUnderstoodAs Understood version info item → as_info read ≡ info
  info_only version (Known info) item read e is = ap as_info (sym e ∙ knows.again version item info is)
  info_only version Foreign item (Some info) e not = absurd (not info (knows.found version item info e))
  info_only version Foreign item None e not = refl

  -- ---- tables

  offer_found : (bytes : List ℕ) (offer : Offer) (rest : List ℕ) → offer_at known bytes ≡ Some (offer, rest) → HasFront (IsOffer (IsInfo Understood) offer) bytes rest
  unfolding offer_at
  offer_found bytes offer rest e =
      let made : ℕ → List ℕ → Offer = λ version item. record { version = version; info = info_of known version item } in
      let a = bind_some (number_at bytes) (λ (version : ℕ × List ℕ). item_at version.1 >>= λ item. Some (made version.0 item.0, item.1)) (offer, rest) e in
      let b = bind_some (item_at a.0.1) (λ (item : List ℕ × List ℕ). Some (made a.0.0 item.0, item.1)) (offer, rest) a.2 in
      let item = reads_item.found a.0.1 b.0.0 b.0.1 b.1 in
      let info : HasFront (IsInfo Understood a.0.0 (info_of known a.0.0 b.0.0)) a.0.1 b.0.1 =
      front_as (λ x is. (is.1, subst (IsUnderstoodAs Understood a.0.0 (info_of known a.0.0 b.0.0)) (sym is.0) (understood a.0.0 b.0.0 (known a.0.0 b.0.0) refl))) item in
      let is : Offer × List ℕ = (made a.0.0 b.0.0, b.0.1) in
      subst (λ (p : Offer × List ℕ). HasFront (IsOffer (IsInfo Understood) p.0) bytes p.1) (some_is is (offer, rest) b.2)
      (pair_front (reads_number.found bytes a.0.0 a.0.1 a.1) info)

  offer_again : (offer : Offer) (front rest : List ℕ) → IsOffer (IsInfo Understood) offer front → offer_at known (front ++ rest) ≡ Some (offer, rest)
  unfolding offer_at
  offer_again offer front rest p =
      let info : info_of known offer.version p.second ≡ offer.info = info_only offer.version offer.info p.second (known offer.version p.second) refl p.is_second.1 in
      ap (offer_at known) (pair_parts p rest)
      ∙ rw (reads_number.again offer.version p.first (p.second ++ rest) p.is_first, reads_item.again p.second p.second rest (refl, p.is_second.0), info) refl

  pub reads_offer : Reads (IsOffer (IsInfo Understood)) (offer_at known)
  reads_offer = record { found = offer_found; again = offer_again }

  table_found : (bytes : List ℕ) (table : List Offer) (rest : List ℕ) → table_at known bytes ≡ Some (table, rest) → HasFront (IsTable (IsInfo Understood) table) bytes rest
  unfolding table_at
  table_found bytes table rest e =
      let a = bind_some (definite_at 5 bytes) (λ (count : ℕ × List ℕ). row_at (offer_at known) count.0 count.1 >>= λ offers. cond (rises offers.0) (Some offers) None) (table, rest) e in
      let b = bind_some (row_at (offer_at known) a.0.0 a.0.1) (λ (offers : List Offer × List ℕ). cond (rises offers.0) (Some offers) None) (table, rest) a.2 in
      let g = guard_some (rises b.0.0) b.0 (table, rest) b.2 in
      let row = row_found (IsOffer (IsInfo Understood)) (offer_at known) reads_offer a.0.0 a.0.1 b.0.0 b.0.1 b.1 in
      let head = subst (λ (n : ℕ). HasFront (IsDefinite 5 n) bytes a.0.1) (sym row.0) ((reads_definite 5).found bytes a.0.0 a.0.1 a.1) in
      let map = pair_front head row.1 in
      let stands : HasFront (IsTable (IsInfo Understood) b.0.0) bytes b.0.1 = record { front = map.front; joined = map.joined; is = record { rising = g.0; is_map = map.is } } in
      subst (λ (p : List Offer × List ℕ). HasFront (IsTable (IsInfo Understood) p.0) bytes p.1) g.1 stands

  table_again : (table : List Offer) (front rest : List ℕ) → IsTable (IsInfo Understood) table front → table_at known (front ++ rest) ≡ Some (table, rest)
  unfolding table_at
  table_again table front rest is =
      let p = is.is_map in
      ap (table_at known) (pair_parts p rest)
      ∙ rw ((reads_definite 5).again (length table) p.first (p.second ++ rest) p.is_first, row_again (IsOffer (IsInfo Understood)) (offer_at known) reads_offer table p.second rest p.is_second, is.rising) refl

  pub reads_table : Reads (IsTable (IsInfo Understood)) (table_at known)
  reads_table = record { found = table_found; again = table_again }

-- ---- reasons

-- the versions behind the head of an array
versions_found : (head : Head) (spelled : List ℕ) (bytes : List ℕ) (mid : List ℕ) (versions rest : List ℕ) (endless : Bool) → head.indefinite ≡ endless → head.major ≡ 4
    → HasFront (IsHead head) bytes mid → version_row_at head mid ≡ Some (versions, rest) → HasFront (IsVersionList versions) bytes rest
versions_found head spelled bytes mid versions rest true is four front e =
    let unclosed : HasFront (IsIndefinite 4) bytes mid = front_as (λ x h. record { head = head; is_head = h; is_major = four; indefinite = is }) front in
    let read : row_to_break_at number_at (length mid) mid ≡ Some (versions, rest) = rw is at e in
    front_as {Other = IsVersionList versions} (λ x l. inr l) (pair_front unclosed (closed_found IsNumber number_at reads_number (length mid) mid versions rest read))
versions_found head spelled bytes mid versions rest false is four front e =
    let read : row_at number_at head.value mid ≡ Some (versions, rest) = rw is at e in
    let row = row_found IsNumber number_at reads_number head.value mid versions rest read in
    let closed : HasFront (IsDefinite 4 (length versions)) bytes mid =
    front_as (λ x h. record { head = head; is_head = h; is_major = four; definite = is; is_value = sym row.0 }) front in
    front_as {Other = IsVersionList versions} (λ x l. inl l) (pair_front closed row.1)

version_list_found : (bytes versions rest : List ℕ) → version_list_at bytes ≡ Some (versions, rest) → HasFront (IsVersionList versions) bytes rest
unfolding version_list_at
version_list_found bytes versions rest e =
    let a = bind_some (any_head_at bytes) (λ (read : Head × List ℕ). cond (eqb read.0.major 4) (version_row_at read.0 read.1) None) (versions, rest) e in
    elim (chosen (eqb a.0.0.major 4) (version_row_at a.0.0 a.0.1) None (Some (versions, rest)) a.2) [
      | inl (four, is) ↦ versions_found a.0.0 [] bytes a.0.1 versions rest a.0.0.indefinite refl (eqb-true _ _ four) (reads_any_head.found bytes a.0.0 a.0.1 a.1) is
      | inr (other, is) ↦ absurd cc
    ]

version_list_again : (versions front rest : List ℕ) → IsVersionList versions front → version_list_at (front ++ rest) ≡ Some (versions, rest)
unfolding version_list_at
version_list_again versions front rest (inl p) =
    let h = p.is_first in
    ap version_list_at (pair_parts p rest)
    ∙ rw (reads_any_head.again h.head p.first (p.second ++ rest) h.is_head, h.is_major, h.definite, h.is_value) (row_again IsNumber number_at reads_number versions p.second rest p.is_second)
version_list_again versions front rest (inr p) =
    let h = p.is_first in
    ap version_list_at (pair_parts p rest)
    ∙ rw (reads_any_head.again h.head p.first (p.second ++ rest) h.is_head, h.is_major, h.indefinite) (closed_again IsNumber number_at reads_number number_is_plain versions p.second rest p.is_second)

pub reads_version_list : Reads IsVersionList version_list_at
reads_version_list = record { found = version_list_found; again = version_list_again }

-- An array's head with its first number, and what is behind that.
tagged_front : {Rest : List ℕ → Type 0} {bytes mid rest : List ℕ} (tag : Tag) → HasFront (IsTag tag) bytes mid → HasFront Rest mid rest
    → HasFront (IsDefiniteArray tag.elements (IsPair (IsNumber tag.number) Rest)) bytes rest
tagged_front {Rest} {bytes} {mid} {rest} tag one two = record {
  front = one.is.first ++ (one.is.second ++ two.front);
  joined = one.joined ∙ ap (λ (x : List ℕ). x ++ mid) one.is.joined ∙ append_assoc one.is.first one.is.second mid
      ∙ ap (λ (x : List ℕ). one.is.first ++ x) (ap (λ (x : List ℕ). one.is.second ++ x) two.joined ∙ sym (append_assoc one.is.second two.front rest))
      ∙ sym (append_assoc one.is.first (one.is.second ++ two.front) rest);
  is = record {
    first = one.is.first;
    second = one.is.second ++ two.front;
    joined = refl;
    is_first = one.is.is_first;
    is_second = record { first = one.is.second; second = two.front; joined = refl; is_first = one.is.is_second; is_second = two.is };
  };
}

tagged_again : {Rest : List ℕ → Type 0} (tag : Tag) (front rest : List ℕ) (p : IsDefiniteArray tag.elements (IsPair (IsNumber tag.number) Rest) front)
    → tag_at (front ++ rest) ≡ Some (tag, p.is_second.second ++ rest)
tagged_again {Rest} tag front rest p =
    let inner = p.is_second in
    let both : IsTag tag (p.first ++ inner.first) = record { first = p.first; second = inner.first; joined = refl; is_first = p.is_first; is_second = inner.is_first } in
    let regrouped : front ++ rest ≡ (p.first ++ inner.first) ++ (inner.second ++ rest) =
    pair_parts p rest ∙ ap (λ (x : List ℕ). p.first ++ x) (pair_parts inner rest) ∙ sym (append_assoc p.first inner.first (inner.second ++ rest)) in
    ap tag_at regrouped ∙ reads_tag.again tag (p.first ++ inner.first) (inner.second ++ rest) both

-- which tag it is
tag_is : (tag other : Tag) → is_tag tag other ≡ true → tag ≡ other
tag_is tag other e =
    let parts = and_parts (eqb tag.elements other.elements) (eqb tag.number other.number) e in
    let first : tag.elements ≡ other.elements = eqb-true _ _ parts.0 in
    let second : tag.number ≡ other.number = eqb-true _ _ parts.1 in
    ap (λ (n : ℕ). tag_with n tag.number) first ∙ ap (λ (n : ℕ). tag_with other.elements n) second

kind_is : {Kind : Type 0} (tag_of : Kind → Tag) (kinds : List Kind) (tag : Tag) (kind : Kind) → kind_among tag_of kinds tag ≡ Some kind → tag ≡ tag_of kind
kind_is tag_of [] tag kind e = absurd cc
kind_is tag_of (first ∷ kinds) tag kind e =
    elim (chosen (is_tag tag (tag_of first)) (Some first) (kind_among tag_of kinds tag) (Some kind) e) [
      | inl (is, found) ↦ tag_is tag (tag_of first) is ∙ ap tag_of (some_is first kind found)
      | inr (other, later) ↦ kind_is tag_of kinds tag kind later
    ]

reason_behind_found : (bytes mid : List ℕ) (code : ReasonCode) (reason : Reason) (rest : List ℕ) → HasFront (IsTag (reason_tag code)) bytes mid → reason_behind code mid ≡ Some (reason, rest)
    → HasFront (IsReason reason) bytes rest
reason_behind_found bytes mid reason_code.NoCommon reason rest t e =
    let b = bind_some (version_list_at mid) (λ (versions : List ℕ × List ℕ). Some (NoCommon versions.0, versions.1)) (reason, rest) e in
    let made : Reason × List ℕ = (NoCommon b.0.0, b.0.1) in
    subst (λ (p : Reason × List ℕ). HasFront (IsReason p.0) bytes p.1) (some_is made (reason, rest) b.2)
    (tagged_front (reason_tag reason_code.NoCommon) t (reads_version_list.found mid b.0.0 b.0.1 b.1))
reason_behind_found bytes mid reason_code.NotDecoded reason rest t e =
    let b = bind_some (noted_at mid) (λ (noted : (ℕ × List ℕ) × List ℕ). Some (NotDecoded noted.0.0 noted.0.1, noted.1)) (reason, rest) e in
    let made : Reason × List ℕ = (NotDecoded b.0.0.0 b.0.0.1, b.0.1) in
    subst (λ (p : Reason × List ℕ). HasFront (IsReason p.0) bytes p.1) (some_is made (reason, rest) b.2)
    (tagged_front (reason_tag reason_code.NotDecoded) t (reads_noted.found mid b.0.0 b.0.1 b.1))
reason_behind_found bytes mid reason_code.Declined reason rest t e =
    let b = bind_some (noted_at mid) (λ (noted : (ℕ × List ℕ) × List ℕ). Some (Declined noted.0.0 noted.0.1, noted.1)) (reason, rest) e in
    let made : Reason × List ℕ = (Declined b.0.0.0 b.0.0.1, b.0.1) in
    subst (λ (p : Reason × List ℕ). HasFront (IsReason p.0) bytes p.1) (some_is made (reason, rest) b.2)
    (tagged_front (reason_tag reason_code.Declined) t (reads_noted.found mid b.0.0 b.0.1 b.1))

reason_found : (bytes : List ℕ) (reason : Reason) (rest : List ℕ) → reason_at bytes ≡ Some (reason, rest) → HasFront (IsReason reason) bytes rest
unfolding reason_at
reason_found bytes reason rest e =
    let a = bind_some (tag_at bytes) (λ (tag : Tag × List ℕ). reason_code_of tag.0 >>= λ code. reason_behind code tag.1) (reason, rest) e in
    let c = bind_some (reason_code_of a.0.0) (λ (code : ReasonCode). reason_behind code a.0.1) (reason, rest) a.2 in
    let tag = subst (λ (t : Tag). HasFront (IsTag t) bytes a.0.1) (kind_is reason_tag reason_codes a.0.0 c.0 c.1) (reads_tag.found bytes a.0.0 a.0.1 a.1) in
    reason_behind_found bytes a.0.1 c.0 reason rest tag c.2

reason_again : (reason : Reason) (front rest : List ℕ) → IsReason reason front → reason_at (front ++ rest) ≡ Some (reason, rest)
unfolding reason_at
reason_again (NoCommon versions) front rest p =
    rw (tagged_again (reason_tag reason_code.NoCommon) front rest p, reads_version_list.again versions p.is_second.second rest p.is_second.is_second) refl
reason_again (NotDecoded version text) front rest p =
    rw (tagged_again (reason_tag reason_code.NotDecoded) front rest p, reads_noted.again (version, text) p.is_second.second rest p.is_second.is_second) refl
reason_again (Declined version text) front rest p =
    rw (tagged_again (reason_tag reason_code.Declined) front rest p, reads_noted.again (version, text) p.is_second.second rest p.is_second.is_second) refl

pub reads_reason : Reads IsReason reason_at
reads_reason = record { found = reason_found; again = reason_again }

-- ---- messages

module _ (Understood : ℕ → VersionInfo → List ℕ → Type 0) (known : Knowing) (knows : Knows Understood known) where
  message_behind_found : (bytes mid : List ℕ) (code : MessageCode) (message : Message) (rest : List ℕ) → HasFront (IsTag (message_tag code)) bytes mid
      → message_behind known code mid ≡ Some (message, rest) → HasFront (IsMessage (IsInfo Understood) message) bytes rest
  message_behind_found bytes mid message_code.Propose message rest t e =
      let b = bind_some (table_at known mid) (λ (table : List Offer × List ℕ). Some (Propose table.0, table.1)) (message, rest) e in
      let made : Message × List ℕ = (Propose b.0.0, b.0.1) in
      subst (λ (p : Message × List ℕ). HasFront (IsMessage (IsInfo Understood) p.0) bytes p.1) (some_is made (message, rest) b.2)
      (tagged_front (message_tag message_code.Propose) t ((reads_table Understood known knows).found mid b.0.0 b.0.1 b.1))
  message_behind_found bytes mid message_code.Accept message rest t e =
      let b = bind_some (offer_at known mid) (λ (offer : Offer × List ℕ). Some (Accept offer.0.version offer.0.info, offer.1)) (message, rest) e in
      let made : Message × List ℕ = (Accept b.0.0.version b.0.0.info, b.0.1) in
      subst (λ (p : Message × List ℕ). HasFront (IsMessage (IsInfo Understood) p.0) bytes p.1) (some_is made (message, rest) b.2)
      (tagged_front (message_tag message_code.Accept) t ((reads_offer Understood known knows).found mid b.0.0 b.0.1 b.1))
  message_behind_found bytes mid message_code.Refuse message rest t e =
      let b = bind_some (reason_at mid) (λ (reason : Reason × List ℕ). Some (Refuse reason.0, reason.1)) (message, rest) e in
      let made : Message × List ℕ = (Refuse b.0.0, b.0.1) in
      subst (λ (p : Message × List ℕ). HasFront (IsMessage (IsInfo Understood) p.0) bytes p.1) (some_is made (message, rest) b.2)
      (tagged_front (message_tag message_code.Refuse) t (reads_reason.found mid b.0.0 b.0.1 b.1))
  message_behind_found bytes mid message_code.QueryReply message rest t e =
      let b = bind_some (table_at known mid) (λ (table : List Offer × List ℕ). Some (QueryReply table.0, table.1)) (message, rest) e in
      let made : Message × List ℕ = (QueryReply b.0.0, b.0.1) in
      subst (λ (p : Message × List ℕ). HasFront (IsMessage (IsInfo Understood) p.0) bytes p.1) (some_is made (message, rest) b.2)
      (tagged_front (message_tag message_code.QueryReply) t ((reads_table Understood known knows).found mid b.0.0 b.0.1 b.1))

  message_found : (bytes : List ℕ) (message : Message) (rest : List ℕ) → message_at known bytes ≡ Some (message, rest) → HasFront (IsMessage (IsInfo Understood) message) bytes rest
  unfolding message_at
  message_found bytes message rest e =
      let a = bind_some (tag_at bytes) (λ (tag : Tag × List ℕ). message_code_of tag.0 >>= λ code. message_behind known code tag.1) (message, rest) e in
      let c = bind_some (message_code_of a.0.0) (λ (code : MessageCode). message_behind known code a.0.1) (message, rest) a.2 in
      let tag = subst (λ (t : Tag). HasFront (IsTag t) bytes a.0.1) (kind_is message_tag message_codes a.0.0 c.0 c.1) (reads_tag.found bytes a.0.0 a.0.1 a.1) in
      message_behind_found bytes a.0.1 c.0 message rest tag c.2

  message_again : (message : Message) (front rest : List ℕ) → IsMessage (IsInfo Understood) message front → message_at known (front ++ rest) ≡ Some (message, rest)
  unfolding message_at
  message_again (Propose table) front rest p =
      rw (tagged_again (message_tag message_code.Propose) front rest p, (reads_table Understood known knows).again table p.is_second.second rest p.is_second.is_second) refl
  message_again (Accept version info) front rest p =
      rw (tagged_again (message_tag message_code.Accept) front rest p, (reads_offer Understood known knows).again (record { version = version; info = info }) p.is_second.second rest p.is_second.is_second) refl
  message_again (Refuse reason) front rest p =
      rw (tagged_again (message_tag message_code.Refuse) front rest p, reads_reason.again reason p.is_second.second rest p.is_second.is_second) refl
  message_again (QueryReply table) front rest p =
      rw (tagged_again (message_tag message_code.QueryReply) front rest p, (reads_table Understood known knows).again table p.is_second.second rest p.is_second.is_second) refl

  pub reads_message : Reads (IsMessage (IsInfo Understood)) (message_at known)
  reads_message = record { found = message_found; again = message_again }
