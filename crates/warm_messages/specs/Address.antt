-- The addresses of peer sharing: [0, word, port] and [1, word, word, word, word, port].
use Rattle.std.specs.Prelude.{◌≡◌, ℕ, ◌+◌, ◌*◌, ◌/◌, ◌%◌, ◌^◌, ◌<◌, Bool, ◌&&◌, ◌==◌, nat_lt, List, [], ◌∷◌, Option, Some, None, if◌then◌else◌}
use Rattle.net_base.specs.declared.address.Ip.{Ip}
use Rattle.net_base.specs.declared.address.Ip.TheVariants.{V4, V6}
use Rattle.net_base.specs.declared.address.Addr.{Addr}
use Rattle.warm_messages.specs.Array.{IsNumbers}

abbrev pub is_word : ℕ → Bool
is_word n = nat_lt n (2 ^ 32)

abbrev pub is_port : ℕ → Bool
is_port n = nat_lt n (2 ^ 16)

-- four words, the most significant first
abbrev pub ip_of_words : ℕ → ℕ → ℕ → ℕ → ℕ
ip_of_words a b c d = ((a * 2 ^ 32 + b) * 2 ^ 32 + c) * 2 ^ 32 + d

abbrev pub ipv4_of : ℕ → ℕ → Option Addr
ipv4_of word port =
    if is_word word && is_port port then Some (record { ip = V4 word; port = port }) else None

abbrev pub ipv6_of : ℕ → ℕ → ℕ → ℕ → ℕ → Option Addr
ipv6_of a b c d port =
    if is_word a && is_word b && is_word c && is_word d && is_port port
    then Some (record { ip = V6 (ip_of_words a b c d); port = port })
    else None

-- The address that numbers stand for. In the longer form of IPv6 two numbers before the port say nothing.
abbrev pub address_of : List ℕ → Option Addr
address_of (kind ∷ word ∷ port ∷ []) = if kind == 0 then ipv4_of word port else None
address_of (kind ∷ a ∷ b ∷ c ∷ d ∷ port ∷ []) = if kind == 1 then ipv6_of a b c d port else None
address_of (kind ∷ a ∷ b ∷ c ∷ d ∷ passed ∷ over ∷ port ∷ []) = if kind == 1 then ipv6_of a b c d port else None
address_of numbers = None

-- the bytes are an address
pub record SpellsAddress (addr : Addr) (bytes : List ℕ) : Type 0 where
  pub numbers : List ℕ
  pub spelled : IsNumbers numbers bytes
  pub is : address_of numbers ≡ Some addr

-- ---- the numbers that are written

abbrev pub ip_numbers : Ip → List ℕ → List ℕ
ip_numbers (V4 word) port = 0 ∷ word ∷ port
ip_numbers (V6 ip) port =
    let shorter = λ (n : ℕ). n / 2 ^ 32 in
    let last = λ (n : ℕ). n % 2 ^ 32 in
    1 ∷ shorter (shorter (shorter ip)) ∷ last (shorter (shorter ip)) ∷ last (shorter ip) ∷ last ip ∷ port

-- of the two forms of IPv6 the shorter one
abbrev pub address_numbers : Addr → List ℕ
address_numbers addr = ip_numbers addr.ip (addr.port ∷ [])

abbrev pub IsIp : Ip → Type 0
IsIp (V4 word) = word < 2 ^ 32
IsIp (V6 ip) = ip < 2 ^ 128

-- an address of the type `Addr`
abbrev pub IsAddress : Addr → Type 0
IsAddress addr = IsIp addr.ip × (addr.port < 2 ^ 16)
