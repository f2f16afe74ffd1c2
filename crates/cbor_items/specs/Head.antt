-- Heads of RFC 8949, section 3: an initial byte, and the argument that follows it.
use Rattle.std.specs.Prelude.{◌≡◌, ℕ, ◌+◌, ◌*◌, ◌/◌, ◌%◌, Bool, false, ◌&&◌, ◌||◌, not, ◌==◌, nat_lt, nat_le, List, [], ◌∷◌, length, take, drop, slice_index, IsTrue, Option, Some, None, Result, Ok, Err, if◌then◌else◌}
use Rattle.std.specs.Int.{w16, w32, w64, to_be_bytes, from_be_bytes}
use Rattle.cbor_items.specs.declared.head.Head.{Head}
use Rattle.cbor_items.specs.declared.stop.Stop.{Stop}
use Rattle.cbor_items.specs.declared.stop.Stop.TheVariants.{More, Bad}
use Rattle.cbor_items.specs.Reading.{◌>>=◌}

-- the major type: the upper three bits of the initial byte
abbrev pub major_of : ℕ → ℕ
major_of initial = initial / 32

-- the additional information: its lower five bits
abbrev pub info_of : ℕ → ℕ
info_of initial = initial % 32

-- the initial byte is the head, and has the value
abbrev pub is_short : ℕ → Bool
is_short initial = nat_lt (info_of initial) 24

-- how many bytes the argument has
abbrev pub argument_len : ℕ → ℕ
argument_len info = if info == 24 then 1 else (if info == 25 then 2 else (if info == 26 then 4 else (if info == 27 then 8 else 0)))

-- the value: below 24 it is the additional information itself, else the argument, the greatest byte first.
-- An indefinite head has 0.
abbrev pub value_of : ℕ → List ℕ → ℕ
value_of info argument =
    if nat_lt info 24 then info
    else (if info == 24 then slice_index argument 0
    else (if info == 25 then from_be_bytes w16 argument
    else (if info == 26 then from_be_bytes w32 argument
    else (if info == 27 then from_be_bytes w64 argument
    else 0))))

-- Additional information 28 to 30 is reserved. 31, which stands for an indefinite length, goes with strings,
-- arrays, maps and the break, and not with the major types of integers and tags.
abbrev pub may_begin : ℕ → Bool
may_begin initial = nat_lt (info_of initial) 28
    || (info_of initial == 31 && not (major_of initial == 0 || major_of initial == 1 || major_of initial == 6))

-- a simple value in the next byte is at least 32 (section 3.3)
abbrev pub may_follow : ℕ → List ℕ → Bool
may_follow initial argument = not (initial == 0xf8) || nat_le 32 (slice_index argument 0)

abbrev pub head_of : ℕ → List ℕ → Head
head_of initial argument = record {
  major = major_of initial;
  value = value_of (info_of initial) argument;
  indefinite = info_of initial == 31;
  size = 1 + length argument;
}

-- the bytes are the head, all of them
pub record IsHead (head : Head) (bytes : List ℕ) : Type 0 where
  pub initial : ℕ
  pub argument : List ℕ
  pub joined : bytes ≡ initial ∷ argument
  pub begins : IsTrue (may_begin initial)
  pub whole : length argument ≡ argument_len (info_of initial)
  pub follows : IsTrue (may_follow initial argument)
  pub is : head ≡ head_of initial argument

-- Reading a head: what is seen at the initial byte decides there, before the argument.
abbrev pub initial_at : List ℕ → Result (ℕ × List ℕ) Stop
initial_at [] = Err More
initial_at (initial ∷ rest) = if may_begin initial then Ok (initial, rest) else Err Bad

-- the head with its argument at the front of the bytes, and the bytes behind it
abbrev pub argument_at : ℕ → List ℕ → Result (Head × List ℕ) Stop
argument_at initial bytes = let n = argument_len (info_of initial) in
    if nat_lt (length bytes) n then Err More
    else (if may_follow initial (take n bytes) then Ok (head_of initial (take n bytes), drop n bytes) else Err Bad)

abbrev pub head_and_rest : List ℕ → Result (Head × List ℕ) Stop
head_and_rest bytes = initial_at bytes >>= λ read. argument_at read.0 read.1

abbrev pub found_head : Result (Head × List ℕ) Stop → Option Head
found_head (Ok read) = Some read.0
found_head (Err stop) = None

-- the whole valid head at the front of the bytes
unfoldable pub head_at : List ℕ → Option Head
head_at bytes = found_head (head_and_rest bytes)

-- the shortest head of a major type and a value
unfoldable pub shortest_head : ℕ → ℕ → List ℕ
shortest_head major value =
    if nat_lt value 24 then (major * 32 + value) ∷ []
    else (if nat_lt value 0x100 then (major * 32 + 24) ∷ value ∷ []
    else (if nat_lt value 0x1_0000 then (major * 32 + 25) ∷ to_be_bytes w16 value
    else (if nat_lt value 0x1_0000_0000 then (major * 32 + 26) ∷ to_be_bytes w32 value
    else (major * 32 + 27) ∷ to_be_bytes w64 value)))

-- the head that it is
abbrev pub written_head : ℕ → ℕ → Head
written_head major value = record { major = major; value = value; indefinite = false; size = length (shortest_head major value) }
