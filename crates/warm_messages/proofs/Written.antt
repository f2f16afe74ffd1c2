-- What is written spells the message.
use Rattle.std.proofs.Common.{◌≡◌, ℕ, ◌/◌, ◌%◌, ◌^◌, ◌<◌, List, [], ◌∷◌, ◌++◌, length, Some, refl, sym, ap, subst, ◌∙◌, append_assoc, arith}
use Rattle.std.specs.List.{flat_map, All, AllByRecursion}
use Rattle.std.proofs.lemmas.Bool.{lt-ltb}
use Rattle.std.proofs.lemmas.List.{append-nil}
use Rattle.std.proofs.lemmas.List.Elements.{All-head, All-tail}
use Rattle.cbor_items.specs.Head.{written_head}
use Rattle.cbor_items.specs.Definite.{IsNumber}
use Rattle.cbor_items.specs.Item.{AreInTurn}
use Rattle.cbor_items.proofs.Turns.{number_written, in_turn_written}
use Rattle.cbor_items.proofs.Shortest.{are_read_again}
use Rattle.net_base.specs.declared.address.Ip.{Ip}
use Rattle.net_base.specs.declared.address.Ip.TheVariants.{V4, V6}
use Rattle.net_base.specs.declared.address.Addr.{Addr}
use Rattle.warm_messages.specs.declared.alive.Alive.{Alive}
use Rattle.warm_messages.specs.declared.alive.Alive.TheVariants as alive
use Rattle.warm_messages.specs.declared.share.Share.TheVariants as share
use Rattle.warm_messages.specs.Array.{IsNumbers, IsArray}
use Rattle.warm_messages.specs.Address.{ip_of_words, ipv6_of, address_of, SpellsAddress, ip_numbers, address_numbers, IsIp, IsAddress}
use Rattle.warm_messages.specs.Message.{HasCookie, SpellsAlive, SpellsShare}
use Rattle.warm_messages.specs.Writing.{written_number, written_opening, written_numbers, written_alive, written_request, written_address, written_addresses, written_peers}

-- an array whose elements are written one behind the other
array_written : (count : ℕ) (Content : List ℕ → Type 0) (content : List ℕ) → count < 2 ^ 64 → Content content → IsArray count Content (written_opening count ++ content)
array_written count Content content fits is = record {
  head = written_head 4 count;
  spelled = written_opening count;
  content = content;
  ending = [];
  joined = ap (λ (y : List ℕ). written_opening count ++ y) (sym (append-nil content));
  is_head = (are_read_again 4 count [] (record { major_fits = omega arith; simple_fits = λ seven. absurd (omega arith); value_fits = fits })).0;
  array = refl;
  is_content = is;
  ends = (refl, refl);
}

numbers_written : (numbers : List ℕ) → length numbers < 2 ^ 64 → AllByRecursion (λ n. n < 2 ^ 64) numbers → IsNumbers numbers (written_numbers numbers)
numbers_written numbers short fit =
    array_written (length numbers) (AreInTurn IsNumber numbers) (flat_map written_number numbers) short (in_turn_written IsNumber written_number (λ n. n < 2 ^ 64) number_written numbers fit)

pub alive_written : (message : Alive) → HasCookie message → SpellsAlive message (written_alive message)
alive_written (alive.Ask cookie) fits = (fits, numbers_written (0 ∷ cookie ∷ []) (omega arith) (omega arith, (omega arith, tt)))
alive_written (alive.Reply cookie) fits = (fits, numbers_written (1 ∷ cookie ∷ []) (omega arith) (omega arith, (omega arith, tt)))
alive_written alive.Done fits = (tt, numbers_written (2 ∷ []) (omega arith) (omega arith, tt))

pub request_written : (n : ℕ) → n < 2 ^ 64 → SpellsShare (share.Request n) (written_request n)
request_written n fits = numbers_written (0 ∷ n ∷ []) (omega arith) (omega arith, (fits, tt))

-- ---- addresses

-- the words of an ip, put together again
words_joined : (ip : ℕ) → ip_of_words (ip / 2 ^ 32 / 2 ^ 32 / 2 ^ 32) (ip / 2 ^ 32 / 2 ^ 32 % 2 ^ 32) (ip / 2 ^ 32 % 2 ^ 32) (ip % 2 ^ 32) ≡ ip
words_joined ip = omega arith

ipv6_again : (a b c d port : ℕ) → a < 2 ^ 32 → b < 2 ^ 32 → c < 2 ^ 32 → d < 2 ^ 32 → port < 2 ^ 16
    → ipv6_of a b c d port ≡ Some (record { ip = V6 (ip_of_words a b c d); port = port })
ipv6_again a b c d port a-fits b-fits c-fits d-fits port-fits =
    rw (lt-ltb _ _ a-fits, lt-ltb _ _ b-fits, lt-ltb _ _ c-fits, lt-ltb _ _ d-fits, lt-ltb _ _ port-fits) refl

address_again : (ip : Ip) (port : ℕ) → IsIp ip → port < 2 ^ 16 → address_of (ip_numbers ip (port ∷ [])) ≡ Some (record { ip = ip; port = port })
address_again (V4 word) port fits port-fits = rw (lt-ltb _ _ fits, lt-ltb _ _ port-fits) refl
address_again (V6 ip) port fits port-fits =
    ipv6_again (ip / 2 ^ 32 / 2 ^ 32 / 2 ^ 32) (ip / 2 ^ 32 / 2 ^ 32 % 2 ^ 32) (ip / 2 ^ 32 % 2 ^ 32) (ip % 2 ^ 32) port
    (omega arith) (omega arith) (omega arith) (omega arith) port-fits
    ∙ ap (λ (n : ℕ). Some (record { ip = V6 n; port = port })) (words_joined ip)

address_fits : (ip : Ip) (port : ℕ) → IsIp ip → port < 2 ^ 16 → (length (ip_numbers ip (port ∷ [])) < 2 ^ 64) × AllByRecursion (λ n. n < 2 ^ 64) (ip_numbers ip (port ∷ []))
address_fits (V4 word) port fits port-fits = (omega arith, (omega arith, (omega arith, (omega arith, tt))))
address_fits (V6 ip) port fits port-fits =
    (omega arith, (omega arith, (omega arith, (omega arith, (omega arith, (omega arith, (omega arith, tt)))))))

address_written : (addr : Addr) → IsAddress addr → SpellsAddress addr (written_address addr)
address_written addr (fits, port-fits) =
    let f = address_fits addr.ip addr.port fits port-fits in
    record { numbers = address_numbers addr; spelled = numbers_written (address_numbers addr) f.0 f.1; is = address_again addr.ip addr.port fits port-fits }

all_addresses : (peers : List Addr) → All IsAddress peers → AllByRecursion IsAddress peers
all_addresses [] all = tt
all_addresses (addr ∷ peers) all = (All-head IsAddress addr peers all, all_addresses peers (All-tail IsAddress addr peers all))

pub peers_written : (peers : List Addr) → All IsAddress peers → length peers < 2 ^ 64 → SpellsShare (share.Peers peers) (written_peers peers)
peers_written peers all short =
    let addresses = array_written (length peers) (AreInTurn SpellsAddress peers) (flat_map written_address peers) short
    (in_turn_written SpellsAddress written_address IsAddress address_written peers (all_addresses peers all)) in
    subst (SpellsShare (share.Peers peers)) (sym (append_assoc (written_opening 2) (written_number 1) (written_addresses peers)))
    (array_written 2 _ (written_number 1 ++ written_addresses peers) (omega arith) (record {
      first = written_number 1;
      second = written_addresses peers;
      joined = refl;
      is_first = number_written 1 (omega arith);
      is_second = addresses;
    }))
