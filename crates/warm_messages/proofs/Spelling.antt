-- Reading finds a message exactly where the bytes spell it.
use Rattle.std.proofs.Common.{◌≡◌, ℕ, suc, ◌+◌, ◌≤◌, List, [], ◌∷◌, ◌++◌, length, Some, refl, sym, ap, subst, ◌∙◌, arith}
use Rattle.std.proofs.lemmas.List.{append-nil, length-append}
use Rattle.cbor_items.specs.Definite.{IsNumber}
use Rattle.cbor_items.specs.Front.{◌>>=◌, whole, number_at}
use Rattle.cbor_items.specs.Item.{AreInTurn}
use Rattle.cbor_items.proofs.Readers.{Reads, bind_some, whole_found, whole_again, reads_number, number_is_plain}
use Rattle.cbor_items.proofs.Skips.{HasFront, StartsPlain}
use Rattle.net_base.specs.declared.address.Addr.{Addr}
use Rattle.warm_messages.specs.Array.{IsNumbers}
use Rattle.warm_messages.specs.Address.{address_of, SpellsAddress}
use Rattle.warm_messages.specs.Message.{SpellsAddresses}
use Rattle.warm_messages.specs.Reading.{numbers_at, address_at, addresses_at}
use Rattle.warm_messages.proofs.Arrays.{some_pair, array_found, array_again, array_is_plain}

-- ---- all of the bytes

-- what stands at the front, with nothing behind it
all_front : {Thing : List ℕ → Type 0} (bytes : List ℕ) → HasFront Thing bytes [] → Thing bytes
all_front {Thing} bytes f = subst Thing (sym (f.joined ∙ append-nil f.front)) f.is

-- ---- arrays of numbers

pub numbers_found : (bytes : List ℕ) (numbers : List ℕ) (rest : List ℕ) → numbers_at bytes ≡ Some (numbers, rest) → HasFront (IsNumbers numbers) bytes rest
unfolding numbers_at
numbers_found bytes numbers rest e = array_found IsNumber number_at reads_number 8 bytes numbers rest e

pub numbers_again : (numbers : List ℕ) (front rest : List ℕ) → length numbers ≤ 8 → IsNumbers numbers front → numbers_at (front ++ rest) ≡ Some (numbers, rest)
unfolding numbers_at
numbers_again numbers front rest fits is = array_again IsNumber number_at reads_number number_is_plain 8 numbers front rest fits is

pub only_numbers_found : (bytes : List ℕ) (numbers : List ℕ) → whole (numbers_at bytes) ≡ Some numbers → IsNumbers numbers bytes
only_numbers_found bytes numbers e = all_front bytes (numbers_found bytes numbers [] (whole_found (numbers_at bytes) numbers e))

pub only_numbers_again : (bytes : List ℕ) (numbers : List ℕ) → length numbers ≤ 8 → IsNumbers numbers bytes → whole (numbers_at bytes) ≡ Some numbers
only_numbers_again bytes numbers fits is =
    whole_again (numbers_at bytes) numbers (ap numbers_at (sym (append-nil bytes)) ∙ numbers_again numbers bytes [] fits is)

-- ---- addresses

-- no address has more than eight numbers
address_is_short : (numbers : List ℕ) (addr : Addr) → address_of numbers ≡ Some addr → length numbers ≤ 8
address_is_short [] addr e = omega arith
address_is_short (a ∷ []) addr e = omega arith
address_is_short (a ∷ b ∷ []) addr e = omega arith
address_is_short (a ∷ b ∷ c ∷ []) addr e = omega arith
address_is_short (a ∷ b ∷ c ∷ d ∷ []) addr e = omega arith
address_is_short (a ∷ b ∷ c ∷ d ∷ f ∷ []) addr e = omega arith
address_is_short (a ∷ b ∷ c ∷ d ∷ f ∷ g ∷ []) addr e = omega arith
address_is_short (a ∷ b ∷ c ∷ d ∷ f ∷ g ∷ h ∷ []) addr e = omega arith
address_is_short (a ∷ b ∷ c ∷ d ∷ f ∷ g ∷ h ∷ i ∷ []) addr e = omega arith
address_is_short (a ∷ b ∷ c ∷ d ∷ f ∷ g ∷ h ∷ i ∷ j ∷ more) addr e = absurd cc

address_found : (bytes : List ℕ) (addr : Addr) (rest : List ℕ) → address_at bytes ≡ Some (addr, rest) → HasFront (SpellsAddress addr) bytes rest
unfolding address_at
address_found bytes addr rest e =
    let b = bind_some (numbers_at bytes) (λ (read : List ℕ × List ℕ). address_of read.0 >>= λ (a : Addr). Some (a, read.1)) (addr, rest) e in
    let a = bind_some (address_of b.0.0) (λ (a : Addr). Some (a, b.0.1)) (addr, rest) b.2 in
    let is = some_pair a.0 addr b.0.1 rest a.2 in
    let f = numbers_found bytes b.0.0 b.0.1 b.1 in
    record {
      front = f.front;
      joined = f.joined ∙ ap (λ (y : List ℕ). f.front ++ y) is.1;
      is = record { numbers = b.0.0; spelled = f.is; is = a.1 ∙ ap Some is.0 };
    }

address_again : (addr : Addr) (front rest : List ℕ) → SpellsAddress addr front → address_at (front ++ rest) ≡ Some (addr, rest)
unfolding address_at
address_again addr front rest s =
    let numbers = numbers_again s.numbers front rest (address_is_short s.numbers addr s.is) s.spelled in
    rw (numbers, s.is) refl

pub address_reads : Reads SpellsAddress address_at
address_reads = record { found = address_found; again = address_again }

pub address_is_plain : (addr : Addr) (front : List ℕ) → SpellsAddress addr front → StartsPlain front
address_is_plain addr front s = array_is_plain (length s.numbers) (AreInTurn IsNumber s.numbers) front s.spelled

-- each address has a byte at least
addresses_fit : (peers : List Addr) (content : List ℕ) → AreInTurn SpellsAddress peers content → length peers ≤ length content
addresses_fit [] content is = omega arith
addresses_fit (addr ∷ peers) content is =
    let p = address_is_plain addr is.first is.is_first in
    let one : length is.first ≡ suc (length p.rest) = ap length p.joined in
    let all : length content ≡ length is.first + length is.second = ap length is.joined ∙ length-append is.first is.second in
    omega (arith, addresses_fit peers is.second is.is_second)

addresses_found : (bytes : List ℕ) (peers : List Addr) (rest : List ℕ) → addresses_at bytes ≡ Some (peers, rest) → HasFront (SpellsAddresses peers) bytes rest
unfolding addresses_at
addresses_found bytes peers rest e = array_found SpellsAddress address_at address_reads (length bytes) bytes peers rest e

addresses_again : (peers : List Addr) (front rest : List ℕ) → SpellsAddresses peers front → addresses_at (front ++ rest) ≡ Some (peers, rest)
unfolding addresses_at
addresses_again peers front rest is =
    let fits = addresses_fit peers is.content is.is_content in
    let all : length (front ++ rest) ≡ length is.spelled + (length is.content + length is.ending) + length rest =
    omega (arith, length-append front rest, ap length is.joined, length-append is.spelled (is.content ++ is.ending), length-append is.content is.ending) in
    array_again SpellsAddress address_at address_reads address_is_plain (length (front ++ rest)) peers front rest (omega arith) is

pub addresses_read : Reads SpellsAddresses addresses_at
addresses_read = record { found = addresses_found; again = addresses_again }
