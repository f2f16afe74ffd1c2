-- Addresses and groups have one spelling.
use Rattle.std.proofs.Common.{◌≡◌, ℕ, zero, suc, ◌+◌, ◌≤◌, Bool, true, false, ◌&&◌, cond, eqb, List, [], ◌∷◌, ◌++◌, length, map, Option, Some, None, decimal, refl, sym, ap, subst, ◌∙◌, arith, lit<}
use Rattle.std.specs.Prelude.{bytes_eq, Result, Ok}
use Rattle.std.specs.Option.{ok_or}
use Rattle.std.specs.List.{AllByRecursion, flat_map}
use Rattle.std.proofs.lemmas.Bool.{true≢false}
use Rattle.std.proofs.lemmas.List.{length-append}
use Rattle.net_base.specs.declared.address.Addr.{Addr}
use Rattle.net_base.specs.declared.event.Group.{Group}
use Rattle.net_base.specs.Limits.{HasValencies}
use Rattle.trace_text.specs.declared.line.LineRefusal.{LineRefusal}
use Rattle.trace_text.specs.declared.line.LineRefusal.TheVariants.{BadWord, BadNumber}
use Rattle.trace_text.specs.Addresses.{address_of, ipv4_address_of, ipv6_address_of, printed_address}
use Rattle.trace_text.specs.EventTexts.{IsKnownIn, sign_word, group_words}
use Rattle.trace_text.specs.Events.{slash, stops, is_over, addresses_from, next_addresses, next_group, groups_within, sign_of, valency_most}
use Rattle.trace_text.specs.Reading.{◌>>=◌, next_number, next_read, this_word, from_least}
use Rattle.net_base.specs.Number.{number_up_to}
use Rattle.trace_text.specs.Words.{Unread}
use Rattle.trace_text.proofs.Binds.{bound, ok_parts}
use Rattle.trace_text.proofs.GroupLists.{behind_members, behind_sign, behind_warm, behind_hot, behind_slash}
use Rattle.trace_text.proofs.Spelled.{IsBetween, Always, same_bytes, numbers, addresses, signs, one_word, next_only}

same_pair : (p q : List Addr × Unread) → (p.0 ≡ q.0) × (p.1 ≡ q.1) → p ≡ q
same_pair p q h = ap (λ (xs : List Addr). (xs, p.1)) h.0 ∙ ap (λ (r : Unread). (q.0, r)) h.1

module _ (version : ℕ) where
  -- ---- addresses

  -- words that were read as addresses, up to the end or to a slash
  pub record AreAddresses (words : List (List ℕ)) (members : List Addr) (rest : List (List ℕ)) : Type 0 where
    pub spelled : words ≡ map printed_address members ++ rest
    pub known : AllByRecursion (IsKnownIn version) members

  one_more : (word : List ℕ) (words rest : List (List ℕ)) (a : Addr) (members : List Addr) →
      (word ≡ printed_address a) × IsKnownIn version a → AreAddresses words members rest → AreAddresses (word ∷ words) (a ∷ members) rest
  one_more word words rest a members first others = record {
    spelled = ap (λ (w : List ℕ). w ∷ words) first.0 ∙ ap (λ (ws : List (List ℕ)). printed_address a ∷ ws) others.spelled;
    known = (first.1, others.known);
  }

  some_from_ok : (o : Option Addr) (refusal : LineRefusal) (a : Addr) → ok_or o refusal ≡ Ok a → o ≡ Some a
  some_from_ok (Some b) refusal a h = cc
  some_from_ok None refusal a h = absurd cc

  pub addresses_only : (place : ℕ) (words : List (List ℕ)) (members : List Addr) (rest : Unread) →
      addresses_from version place words ≡ Ok (members, rest) → AreAddresses words members rest.words
  unfolding addresses_from
  addresses_only place [] members rest h =
      let parts = ok_parts ([], record { words = []; place = place }) (members, rest) h in
      subst (λ (xs : List Addr). AreAddresses [] xs rest.words) parts.0 (record { spelled = ap (λ (r : Unread). r.words) parts.1; known = tt })
  addresses_only place (word ∷ words) members rest h =
      at (bytes_eq word slash) h (addresses_only (place + 1) words)
    where
      left : Unread
      left = record { words = word ∷ words; place = place }

      more : Addr → Result (List Addr × Unread) LineRefusal
      more address = addresses_from version (place + 1) words >>= λ r. Ok (address ∷ r.0, r.1)

      at : (b : Bool) → cond b (Ok ([], left)) (ok_or (address_of version word) (BadWord place) >>= more) ≡ Ok (members, rest) →
          ((told : List Addr) (r : Unread) → addresses_from version (place + 1) words ≡ Ok (told, r) → AreAddresses words told r.words) →
          AreAddresses (word ∷ words) members rest.words
      at true k others =
          let parts = ok_parts ([], left) (members, rest) k in
          subst (λ (xs : List Addr). AreAddresses (word ∷ words) xs rest.words) parts.0 (record { spelled = ap (λ (r : Unread). r.words) parts.1; known = tt })
      at false k others =
          let first = bound (ok_or (address_of version word) (BadWord place)) more (members, rest) k in
          let second = bound (addresses_from version (place + 1) words) (λ r. Ok (first.value ∷ r.0, r.1)) (members, rest) first.after in
          let parts = ok_parts (first.value ∷ second.value.0, second.value.1) (members, rest) second.after in
          let a = (addresses version).only word first.value (some_from_ok (address_of version word) (BadWord place) first.value first.before) in
          let told = one_more word words second.value.1.words first.value second.value.0 a (others second.value.0 second.value.1 second.before) in
          subst (λ (p : List Addr × Unread). AreAddresses (word ∷ words) p.0 p.1.words) (same_pair (first.value ∷ second.value.0, second.value.1) (members, rest) parts) told

  slash_at : (b : Bool) (a : Addr) → cond (b && false) (ipv6_address_of []) (ipv4_address_of slash) ≡ Some a → ⊥
  slash_at true a h = absurd cc
  slash_at false a h = absurd cc

  no_slash : (a : Addr) → IsKnownIn version a → bytes_eq (printed_address a) slash ≡ false
  no_slash a known = at (bytes_eq (printed_address a) slash) refl
    where
      at : (b : Bool) → bytes_eq (printed_address a) slash ≡ b → b ≡ false
      at false e = refl
      at true e =
          let same = same_bytes (printed_address a) slash e in
          absurd (slash_at (eqb version 2) a (sym (ap (address_of version) same) ∙ (addresses version).again a known))

  pub addresses_again : (members : List Addr) (rest : List (List ℕ)) (place : ℕ) → AllByRecursion (IsKnownIn version) members → stops rest ≡ true →
      (after : ℕ) × (addresses_from version place (map printed_address members ++ rest) ≡ Ok (members, record { words = rest; place = after }))
  unfolding addresses_from
  addresses_again [] [] place known h = (place, refl)
  addresses_again [] (word ∷ rest) place known h = (place, rw h refl)
  addresses_again (a ∷ members) rest place known h =
      let others = addresses_again members rest (place + 1) known.1 h in
      (others.0, rw (no_slash a known.0, (addresses version).again a known.0, others.1) refl)

  -- ---- a group

  pub record IsGroup (words : List (List ℕ)) (group : Group) (rest : List (List ℕ)) : Type 0 where
    pub spelled : words ≡ group_words group ++ rest
    pub valencies : HasValencies group
    pub known : AllByRecursion (IsKnownIn version) group.members

  abbrev valency : List ℕ → Option ℕ
  valency word = from_least 0 (number_up_to valency_most word)

  pub group_only : (unread rest : Unread) (group : Group) → next_group version unread ≡ Ok (group, rest) → IsGroup unread.words group rest.words
  group_only unread rest group h =
      let begun = bound (next_read (this_word slash) BadWord unread) (behind_slash version) (group, rest) h in
      let hot = bound (next_number 0 valency_most begun.value.1) (behind_hot version) (group, rest) begun.after in
      let warm = bound (next_number 0 valency_most hot.value.1) (behind_warm version hot.value.0) (group, rest) hot.after in
      let sign = bound (next_read sign_of BadWord warm.value.1) (behind_sign version hot.value.0 warm.value.0) (group, rest) warm.after in
      let members = bound (next_addresses version sign.value.1) (behind_members version hot.value.0 warm.value.0 sign.value.0) (group, rest) sign.after in
      let found : Group = record { hot = hot.value.0; warm = warm.value.0; advertise = sign.value.0; members = members.value.0 } in
      let parts = ok_parts (found, members.value.1) (group, rest) members.after in
      let a = next_only (this_word slash) BadWord (λ begun. slash) Always (one_word slash) unread begun.value.1 begun.value.0 begun.before in
      let b = next_only valency BadNumber decimal (IsBetween 0 valency_most) (numbers 0 valency_most (lit< tt)) begun.value.1 hot.value.1 hot.value.0 hot.before in
      let c = next_only valency BadNumber decimal (IsBetween 0 valency_most) (numbers 0 valency_most (lit< tt)) hot.value.1 warm.value.1 warm.value.0 warm.before in
      let d = next_only sign_of BadWord sign_word Always signs warm.value.1 sign.value.1 sign.value.0 sign.before in
      let e = addresses_only sign.value.1.place sign.value.1.words members.value.0 members.value.1 members.before in
      let told : IsGroup unread.words found members.value.1.words = record {
        spelled =
            a.words
            ∙ ap (λ (ws : List (List ℕ)). slash ∷ ws) b.words
            ∙ ap (λ (ws : List (List ℕ)). slash ∷ decimal hot.value.0 ∷ ws) c.words
            ∙ ap (λ (ws : List (List ℕ)). slash ∷ decimal hot.value.0 ∷ decimal warm.value.0 ∷ ws) d.words
            ∙ ap (λ (ws : List (List ℕ)). slash ∷ decimal hot.value.0 ∷ decimal warm.value.0 ∷ sign_word sign.value.0 ∷ ws) e.spelled;
        valencies = (b.fits.1, c.fits.1);
        known = e.known;
      } in
      subst (λ (g : Group). IsGroup unread.words g rest.words) parts.0 (subst (λ (r : Unread). IsGroup unread.words found r.words) parts.1 told)

  pub group_again : (group : Group) (rest : List (List ℕ)) (place : ℕ) → HasValencies group → AllByRecursion (IsKnownIn version) group.members → stops rest ≡ true →
      (after : ℕ) × (next_group version (record { words = group_words group ++ rest; place = place }) ≡ Ok (group, record { words = rest; place = after }))
  group_again group rest place fits known h =
      let hot = (numbers 0 valency_most (lit< tt)).again group.hot (omega arith, fits.0) in
      let warm = (numbers 0 valency_most (lit< tt)).again group.warm (omega arith, fits.1) in
      let sign = signs.again group.advertise tt in
      let members = addresses_again group.members rest (place + 1 + 1 + 1 + 1) known h in
      (members.0, rw (hot, warm, sign, members.1) refl)

  -- ---- groups up to the end

  pub record AreGroups (words : List (List ℕ)) (groups : List Group) : Type 0 where
    pub spelled : words ≡ flat_map group_words groups
    pub valencies : AllByRecursion HasValencies groups
    pub known : AllByRecursion (λ group. AllByRecursion (IsKnownIn version) group.members) groups

  over_only : (words : List (List ℕ)) → is_over words ≡ true → words ≡ []
  over_only [] h = refl
  over_only (word ∷ words) h = absurd (true≢false (sym h))

  none_left : (words : List (List ℕ)) → length words ≤ 0 → words ≡ []
  none_left [] h = refl
  none_left (word ∷ words) h = absurd (omega arith)

  same_groups : (found groups : List Group) → ◌≡◌ {A = Result (List Group) LineRefusal} (Ok found) (Ok groups) → found ≡ groups
  same_groups found groups h = cc

  no_groups : (words : List (List ℕ)) (groups : List Group) → words ≡ [] → ◌≡◌ {A = Result (List Group) LineRefusal} (Ok []) (Ok groups) → AreGroups words groups
  no_groups words groups e h = subst (AreGroups words) (same_groups [] groups h) (record { spelled = e; valencies = tt; known = tt })

  pub groups_only : (most : ℕ) (unread : Unread) (groups : List Group) → length unread.words ≤ most → groups_within most version unread ≡ Ok groups → AreGroups unread.words groups
  unfolding groups_within
  groups_only zero unread groups fits h = no_groups unread.words groups (none_left unread.words fits) h
  groups_only (suc most) unread groups fits h = at (is_over unread.words) refl h (groups_only most)
    where
      more : Group × Unread → Result (List Group) LineRefusal
      more r = groups_within most version r.1 >>= λ groups. Ok (r.0 ∷ groups)

      at : (b : Bool) → is_over unread.words ≡ b → cond b (Ok []) (next_group version unread >>= more) ≡ Ok groups →
          ((rest : Unread) (told : List Group) → length rest.words ≤ most → groups_within most version rest ≡ Ok told → AreGroups rest.words told) →
          AreGroups unread.words groups
      at true e k others = no_groups unread.words groups (over_only unread.words e) k
      at false e k others =
          let first = bound (next_group version unread) more groups k in
          let second = bound (groups_within most version first.value.1) (λ groups. Ok (first.value.0 ∷ groups)) groups first.after in
          let g = group_only unread first.value.1 first.value.0 first.before in
          let shorter : length unread.words ≡ length (group_words first.value.0) + length first.value.1.words = ap length g.spelled ∙ length-append (group_words first.value.0) first.value.1.words in
          let told = others first.value.1 second.value (omega (arith, shorter, fits)) second.before in
          subst (AreGroups unread.words) (same_groups (first.value.0 ∷ second.value) groups second.after) (record {
            spelled = g.spelled ∙ ap (λ (ws : List (List ℕ)). group_words first.value.0 ++ ws) told.spelled;
            valencies = (g.valencies, told.valencies);
            known = (g.known, told.known);
          })

  stops-groups : (groups : List Group) → stops (flat_map group_words groups) ≡ true
  stops-groups [] = refl
  stops-groups (group ∷ groups) = refl

  pub groups_again : (most : ℕ) (groups : List Group) (place : ℕ) → AllByRecursion HasValencies groups → AllByRecursion (λ group. AllByRecursion (IsKnownIn version) group.members) groups →
      length (flat_map group_words groups) ≤ most → groups_within most version (record { words = flat_map group_words groups; place = place }) ≡ Ok groups
  unfolding groups_within
  groups_again zero [] place valencies known fits = refl
  groups_again zero (group ∷ groups) place valencies known fits = absurd (omega arith)
  groups_again (suc most) [] place valencies known fits = refl
  groups_again (suc most) (group ∷ groups) place valencies known fits =
      let len = length-append (group_words group) (flat_map group_words groups) in
      let first = group_again group (flat_map group_words groups) place valencies.0 known.0 (stops-groups groups) in
      let others = groups_again most groups first.0 valencies.1 known.1 (omega (arith, len, fits)) in
      rw (first.1, others) refl
