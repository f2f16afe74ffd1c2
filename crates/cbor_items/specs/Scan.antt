-- The scan of the first item, and what each of its answers means.
use Rattle.std.specs.Prelude.{ℕ, zero, suc, ◌-◌, Bool, false, ◌&&◌, ◌||◌, ◌==◌, nat_lt, List, [], ◌∷◌, length, drop, Result, Ok, Err, if◌then◌else◌}
use Rattle.cbor_items.specs.declared.head.Head.{Head}
use Rattle.cbor_items.specs.declared.stop.Stop.{Stop}
use Rattle.cbor_items.specs.declared.stop.Stop.TheVariants as stop
use Rattle.cbor_items.specs.declared.scan.Scan.{Scan}
use Rattle.cbor_items.specs.declared.scan.Scan.TheVariants as scan
use Rattle.cbor_items.specs.Reading.{◌>>=◌}
use Rattle.cbor_items.specs.Head.{major_of, info_of, is_short, initial_at, argument_at}
use Rattle.cbor_items.specs.Item.{is_string, holds_items, level_limit}

-- passing over something at the front of the bytes: the bytes behind it, or what decided before its end
abbrev pub Skip : Type 0
Skip = List ℕ → Result (List ℕ) Stop

abbrev pub skip_bytes : ℕ → Skip
skip_bytes n bytes = if nat_lt (length bytes) n then Err stop.More else Ok (drop n bytes)

abbrev pub skip_pair : Skip → Skip → Skip
skip_pair first second bytes = first bytes >>= second

unfoldable pub skip_row : Skip → ℕ → Skip
skip_row thing zero bytes = Ok bytes
skip_row thing (suc n) bytes = thing bytes >>= skip_row thing n

-- things up to a break. The number is that of the bytes: each thing takes one at least
unfoldable pub skip_to_break : Skip → ℕ → Skip
skip_to_break thing zero bytes = Err stop.More
skip_to_break thing (suc n) [] = Err stop.More
skip_to_break thing (suc n) (byte ∷ rest) =
    if byte == 0xff then Ok rest else (thing (byte ∷ rest) >>= skip_to_break thing n)

-- a chunk of an indefinite string is a definite one of its major type, as its initial byte shows
unfoldable pub skip_chunk : ℕ → Skip
skip_chunk major [] = Err stop.More
skip_chunk major (initial ∷ rest) =
    if major_of initial == major && nat_lt (info_of initial) 28
    then (argument_at initial rest >>= λ read. skip_bytes read.0.value read.1)
    else Err stop.Bad

-- what stands behind the head of an item that holds no other. A break is no item
unfoldable pub skip_flat_content : Head → Skip
skip_flat_content head bytes =
    if is_string head.major
    then (if head.indefinite then skip_to_break (skip_chunk head.major) (length bytes) bytes else skip_bytes head.value bytes)
    else (if head.indefinite then Err stop.Bad else Ok bytes)

-- what stands behind the head of an array, a map or a tag
unfoldable pub skip_nested_content : Skip → Head → Skip
skip_nested_content item head bytes =
    if head.major == 4
    then (if head.indefinite then skip_to_break item (length bytes) bytes else skip_row item head.value bytes)
    else (if head.major == 5
    then (if head.indefinite then skip_to_break (skip_pair item item) (length bytes) bytes else skip_row (skip_pair item item) head.value bytes)
    else item bytes)

-- what stands behind the initial byte
abbrev pub skip_flat : ℕ → Skip
skip_flat initial bytes = argument_at initial bytes >>= λ read. skip_flat_content read.0 read.1

abbrev pub skip_nested : Skip → ℕ → Skip
skip_nested item initial bytes = argument_at initial bytes >>= λ read. skip_nested_content item read.0 read.1

abbrev pub is_nested : ℕ → Bool
is_nested initial = holds_items (major_of initial)

-- an item that is its initial byte alone: a small number, or a simple value
abbrev pub is_small : ℕ → Bool
is_small initial = is_short initial && (major_of initial == 0 || major_of initial == 1 || major_of initial == 7)

-- an item, where `nested` passes over what stands behind the initial byte of an array, a map or a tag
abbrev pub skip_either : (ℕ → Skip) → Skip
skip_either nested bytes = initial_at bytes >>= λ read. if is_nested read.0 then nested read.0 read.1 else skip_flat read.0 read.1

-- an item with at most so many arrays, maps and tags inside each other
unfoldable pub skip_item : ℕ → Skip
skip_item zero bytes = skip_either (λ initial rest. Err stop.Deep) bytes
skip_item (suc depth) bytes = skip_either (skip_nested (skip_item depth)) bytes

abbrev pub scan_result : List ℕ → Result (List ℕ) Stop → Scan
scan_result bytes (Ok rest) = scan.Whole (length bytes - length rest)
scan_result bytes (Err stop.More) = scan.More
scan_result bytes (Err stop.Bad) = scan.Bad
scan_result bytes (Err stop.Deep) = scan.Deep

-- the scan of the first item: what decides first, from the left
unfoldable pub scan_of : List ℕ → Scan
scan_of bytes = scan_result bytes (skip_item level_limit bytes)

-- the scan says that the bytes are one item, with nothing behind it
abbrev pub is_all_of : List ℕ → Scan → Bool
is_all_of bytes (scan.Whole n) = n == length bytes
is_all_of bytes scan.More = false
is_all_of bytes scan.Bad = false
is_all_of bytes scan.Deep = false

abbrev pub is_one_item : List ℕ → Bool
is_one_item bytes = is_all_of bytes (scan_of bytes)
