-- Reading finds a message exactly where the bytes spell it: keep-alive and peer sharing.
use Rattle.std.proofs.Common.{◌≡◌, ℕ, ◌≤◌, cond, eqb, ltb, List, [], ◌∷◌, ◌++◌, length, Option, Some, None, option_map, refl, sym, ap, subst, ◌∙◌, append_assoc, arith, inl, inr}
use Rattle.std.proofs.lemmas.Bool.{eqb-true, ltb-true, lt-ltb}
use Rattle.std.proofs.lemmas.List.{append-nil}
use Rattle.cbor_items.specs.Item.{IsPair}
use Rattle.cbor_items.specs.Definite.{IsNumber}
use Rattle.cbor_items.specs.Front.{◌>>=◌, number_at, whole}
use Rattle.cbor_items.proofs.Readers.{bind_some, guard_some, reads_number, number_is_plain, whole_found, whole_again}
use Rattle.cbor_items.proofs.Skips.{HasFront, StartsPlain, chosen}
use Rattle.net_base.specs.declared.address.Addr.{Addr}
use Rattle.warm_messages.specs.declared.array.Length.{Length}
use Rattle.warm_messages.specs.declared.alive.Alive.{Alive}
use Rattle.warm_messages.specs.declared.alive.Alive.TheVariants as alive
use Rattle.warm_messages.specs.declared.share.Share.{Share}
use Rattle.warm_messages.specs.declared.share.Share.TheVariants as share
use Rattle.warm_messages.specs.Array.{IsNumbers, IsArray}
use Rattle.warm_messages.specs.Message.{HasCookie, alive_numbers, SpellsAlive, SpellsAddresses, SpellsShare}
use Rattle.warm_messages.specs.Reading.{length_of, opening_at, ending_at, elements_at, numbers_at, addresses_at, cookie_message, alive_of_numbers, alive_of, share_of_numbers, peers_in, peers_at, share_by, share_of}
use Rattle.warm_messages.proofs.Arrays.{some_pair, array_is_no_number, opening_found, opening_again, IsEnding, ending_found, ending_again, ends_array, is_ending, missing_some, goes_on, array_is_plain}
use Rattle.warm_messages.proofs.Spelling.{only_numbers_found, only_numbers_again, addresses_read}

-- ---- keep-alive

-- the message that numbers stand for
abbrev IsAliveOf : List ℕ → Alive → Type 0
IsAliveOf numbers message = HasCookie message × (numbers ≡ alive_numbers message)

cookie_found : (kind cookie : ℕ) (message : Alive) → cookie_message kind cookie ≡ Some message → IsAliveOf (kind ∷ cookie ∷ []) message
cookie_found kind cookie message e =
    elim (chosen (ltb cookie 65536) (cond (eqb kind 0) (Some (alive.Ask cookie)) (cond (eqb kind 1) (Some (alive.Reply cookie)) None)) None (Some message) e) [
      | inl (low, read) ↦ elim (chosen (eqb kind 0) (Some (alive.Ask cookie)) (cond (eqb kind 1) (Some (alive.Reply cookie)) None) (Some message) read) [
        | inl (ask, is) ↦
            let same : alive.Ask cookie ≡ message = cc in
            subst (IsAliveOf (kind ∷ cookie ∷ [])) same (ltb-true _ _ low, rw (eqb-true _ _ ask) refl)
        | inr (other, more) ↦
            let c = guard_some (eqb kind 1) (alive.Reply cookie) message more in
            subst (IsAliveOf (kind ∷ cookie ∷ [])) c.1 (ltb-true _ _ low, rw (eqb-true _ _ c.0) refl)
      ]
      | inr (high, none) ↦ absurd cc
    ]

alive_found : (numbers : List ℕ) (message : Alive) → alive_of_numbers numbers ≡ Some message → IsAliveOf numbers message
alive_found [] message e = absurd cc
alive_found (kind ∷ []) message e =
    let c = guard_some (eqb kind 2) alive.Done message e in
    subst (IsAliveOf (kind ∷ [])) c.1 (tt, rw (eqb-true _ _ c.0) refl)
alive_found (kind ∷ cookie ∷ []) message e = cookie_found kind cookie message e
alive_found (kind ∷ cookie ∷ other ∷ more) message e = absurd cc

alive_again : (message : Alive) → HasCookie message → alive_of_numbers (alive_numbers message) ≡ Some message
alive_again (alive.Ask cookie) fits = rw (lt-ltb cookie 65536 fits) refl
alive_again (alive.Reply cookie) fits = rw (lt-ltb cookie 65536 fits) refl
alive_again alive.Done fits = refl

alive_is_short : (message : Alive) → length (alive_numbers message) ≤ 8
alive_is_short (alive.Ask cookie) = omega arith
alive_is_short (alive.Reply cookie) = omega arith
alive_is_short alive.Done = omega arith

pub alive_spells : (message : Alive) (bytes : List ℕ) → alive_of bytes ≡ Some message → SpellsAlive message bytes
unfolding alive_of
alive_spells message bytes e =
    let b = bind_some (whole (numbers_at bytes)) alive_of_numbers message e in
    let is = alive_found b.0 message b.2 in
    (is.0, subst (λ (numbers : List ℕ). IsNumbers numbers bytes) is.1 (only_numbers_found bytes b.0 b.1))

pub spelled_alive : (message : Alive) (bytes : List ℕ) → SpellsAlive message bytes → alive_of bytes ≡ Some message
unfolding alive_of
spelled_alive message bytes (fits, is) =
    rw (only_numbers_again bytes (alive_numbers message) (alive_is_short message) is) (alive_again message fits)

-- ---- a request, and done

share_numbers_found : (numbers : List ℕ) (message : Share) (bytes : List ℕ) → share_of_numbers numbers ≡ Some message → IsNumbers numbers bytes → SpellsShare message bytes
share_numbers_found [] message bytes e is = absurd cc
share_numbers_found (kind ∷ []) message bytes e is =
    let c = guard_some (eqb kind 2) share.Done message e in
    subst (λ (m : Share). SpellsShare m bytes) c.1 (subst (λ (k : ℕ). IsNumbers (k ∷ []) bytes) (eqb-true _ _ c.0) is)
share_numbers_found (kind ∷ n ∷ []) message bytes e is =
    let c = guard_some (eqb kind 0) (share.Request n) message e in
    subst (λ (m : Share). SpellsShare m bytes) c.1 (subst (λ (k : ℕ). IsNumbers (k ∷ n ∷ []) bytes) (eqb-true _ _ c.0) is)
share_numbers_found (kind ∷ n ∷ other ∷ more) message bytes e is = absurd cc

-- ---- peers

abbrev pub IsPeers : List Addr → List ℕ → Type 0
IsPeers peers bytes = IsArray 2 (IsPair (IsNumber 1) (SpellsAddresses peers)) bytes

peers_found : (bytes : List ℕ) (peers : List Addr) (rest : List ℕ) → peers_at bytes ≡ Some (peers, rest) → HasFront (IsPeers peers) bytes rest
unfolding peers_at
peers_found bytes peers rest e =
    let b = bind_some (opening_at bytes) (λ (opened : Length × List ℕ). peers_in opened.0 opened.1) (peers, rest) e in
    let o = opening_found bytes b.0.0 b.0.1 b.1 in
    let size = b.0.0 in
    let inner = λ (kind : ℕ × List ℕ). addresses_at kind.1 >>= λ read. ending_at size 2 read.1 >>= λ behind. Some (read.0, behind) in
    let k = bind_some (number_at b.0.1) (λ (kind : ℕ × List ℕ). cond (eqb kind.0 1) (inner kind) None) (peers, rest) b.2 in
    let number = reads_number.found b.0.1 k.0.0 k.0.1 k.1 in
    elim (chosen (eqb k.0.0 1) (inner k.0) None (Some (peers, rest)) k.2) [
      | inl (one, more) ↦
          let a = bind_some (addresses_at k.0.1) (λ (read : List Addr × List ℕ). ending_at size 2 read.1 >>= λ behind. Some (read.0, behind)) (peers, rest) more in
          let addresses = addresses_read.found k.0.1 a.0.0 a.0.1 a.1 in
          let z = bind_some (ending_at size 2 a.0.1) (λ (behind : List ℕ). Some (a.0.0, behind)) (peers, rest) a.2 in
          let is = some_pair a.0.0 peers z.0 rest z.2 in
          let ending = ending_found size 2 a.0.1 z.0 z.1 in
          let content = number.front ++ addresses.front in
          let found : HasFront (IsPeers a.0.0) bytes z.0 = record {
            front = o.3.front ++ (content ++ ending.front);
            joined = o.3.joined ∙ ap (λ (y : List ℕ). o.3.front ++ y) (number.joined
                ∙ ap (λ (y : List ℕ). number.front ++ y) (addresses.joined ∙ ap (λ (y : List ℕ). addresses.front ++ y) ending.joined)) ∙ simp append_assoc;
            is = record {
              head = o.0;
              spelled = o.3.front;
              content = content;
              ending = ending.front;
              joined = refl;
              is_head = o.3.is;
              array = o.1;
              is_content = record {
                first = number.front;
                second = addresses.front;
                joined = refl;
                is_first = subst (λ (n : ℕ). IsNumber n number.front) (eqb-true _ _ one) number.is;
                is_second = addresses.is;
              };
              ends = ends_array o.0.indefinite o.0.value 2 ending.front (subst (λ (s : Length). IsEnding s 2 ending.front) (sym o.2) ending.is);
            };
          } in
          subst (λ (r : List ℕ). HasFront (IsPeers peers) bytes r) is.1 (subst (λ (ps : List Addr). HasFront (IsPeers ps) bytes z.0) is.0 found)
      | inr (other, none) ↦ absurd cc
    ]

-- the parts of a peers message, and the rest behind it
peers_joined : (peers : List Addr) (front rest : List ℕ) (is : IsPeers peers front)
    → front ++ rest ≡ is.spelled ++ (is.is_content.first ++ (is.is_content.second ++ (is.ending ++ rest)))
peers_joined peers front rest is =
    ap (λ (y : List ℕ). y ++ rest) (is.joined ∙ ap (λ (y : List ℕ). is.spelled ++ (y ++ is.ending)) is.is_content.joined) ∙ simp append_assoc

peers_again : (peers : List Addr) (front rest : List ℕ) → IsPeers peers front → peers_at (front ++ rest) ≡ Some (peers, rest)
unfolding peers_at
peers_again peers front rest is =
    let second = is.is_content.second ++ (is.ending ++ rest) in
    let opened = opening_again is.head is.spelled (is.is_content.first ++ second) is.is_head is.array in
    let number = reads_number.again 1 is.is_content.first second is.is_content.is_first in
    let addresses = addresses_read.again peers is.is_content.second (is.ending ++ rest) is.is_content.is_second in
    let ends = ending_again (length_of is.head) 2 is.ending rest (is_ending is.head.indefinite is.head.value 2 is.ending is.ends) in
    ap peers_at (peers_joined peers front rest is) ∙ rw (opened, number, addresses, ends) refl

plain_before : (first after : List ℕ) → StartsPlain first → StartsPlain (first ++ after)
plain_before first after p = record { first = p.first; rest = p.rest ++ after; joined = ap (λ (y : List ℕ). y ++ after) p.joined; no_break = p.no_break }

-- a peers message is no array of numbers
peers_are_no_numbers : (peers : List Addr) (bytes : List ℕ) → IsPeers peers bytes → numbers_at bytes ≡ None
unfolding numbers_at elements_at
peers_are_no_numbers peers bytes is =
    let size = length_of is.head in
    let behind = is.ending ++ [] in
    let second = is.is_content.second ++ behind in
    let all = is.is_content.first ++ second in
    let addresses = is.is_content.is_second in
    let ends = is_ending is.head.indefinite is.head.value 2 is.ending is.ends in
    let opened = opening_again is.head is.spelled all is.is_head is.array in
    let number = reads_number.again 1 is.is_content.first second is.is_content.is_first in
    let on = goes_on size 0 all (missing_some size 0 1 is.ending ends) (plain_before _ second (number_is_plain 1 is.is_content.first is.is_content.is_first)) in
    let next = goes_on size 1 second (missing_some size 1 0 is.ending ends) (plain_before _ behind (array_is_plain _ _ is.is_content.second addresses)) in
    let joined : second ≡ addresses.spelled ++ ((addresses.content ++ addresses.ending) ++ behind) =
    ap (λ (y : List ℕ). y ++ behind) addresses.joined ∙ append_assoc addresses.spelled (addresses.content ++ addresses.ending) behind in
    let none : number_at second ≡ None = ap number_at joined ∙ array_is_no_number addresses.head addresses.spelled ((addresses.content ++ addresses.ending) ++ behind) addresses.is_head addresses.array in
    ap numbers_at (sym (append-nil bytes) ∙ peers_joined peers bytes [] is) ∙ rw (opened, on, number, next, none) refl

-- ---- peer sharing

share_by_found : (numbers : Option (List ℕ)) (message : Share) (bytes : List ℕ) → whole (numbers_at bytes) ≡ numbers → share_by numbers bytes ≡ Some message → SpellsShare message bytes
share_by_found (Some numbers) message bytes read e = share_numbers_found numbers message bytes e (only_numbers_found bytes numbers read)
share_by_found None message bytes read e =
    let p = mapped (whole (peers_at bytes)) message e in
    let f = peers_found bytes p.0 [] (whole_found (peers_at bytes) p.0 p.1) in
    subst (λ (m : Share). SpellsShare m bytes) p.2 (subst (IsPeers p.0) (sym (f.joined ∙ append-nil f.front)) f.is)
  where
    mapped : (o : Option (List Addr)) (m : Share) → option_map share.Peers o ≡ Some m → (peers : List Addr) × (o ≡ Some peers) × (share.Peers peers ≡ m)
    mapped (Some peers) m e = (peers, refl, cc)
    mapped None m e = absurd cc

pub share_spells : (message : Share) (bytes : List ℕ) → share_of bytes ≡ Some message → SpellsShare message bytes
unfolding share_of
share_spells message bytes e = share_by_found (whole (numbers_at bytes)) message bytes refl e

pub spelled_share : (message : Share) (bytes : List ℕ) → SpellsShare message bytes → share_of bytes ≡ Some message
unfolding share_of
spelled_share (share.Request n) bytes is = rw (only_numbers_again bytes (0 ∷ n ∷ []) (omega arith) is) refl
spelled_share (share.Peers peers) bytes is =
    let read = peers_again peers bytes [] is in
    let whole-is = whole_again (peers_at bytes) peers (ap peers_at (sym (append-nil bytes)) ∙ read) in
    rw (peers_are_no_numbers peers bytes is, whole-is) refl
spelled_share share.Done bytes is = rw (only_numbers_again bytes (2 ∷ []) (omega arith) is) refl
