-- The words of a trace: how numbers, addresses and bytes are written and read.
-- Numbers are decimal, an address is four numbers below 256 with dots between them (RFC 1123, 2.1), bytes
-- are hexadecimal digits, two a byte.
use Rattle.std.specs.Prelude.{ℕ, ◌^◌, ◌==◌, ◌&&◌, nat_lt, if◌then◌else◌, Bool, true, false, List, [], ◌∷◌, ◌++◌, length, codes, flat_map, bytes_eq, option_map, option_and_then, Option, Some, None}
use Rattle.std.specs.Int.{w16, w32, to_be_bytes, from_be_bytes}
use Rattle.std.specs.Str.{all_ascii_digits}
use Rattle.std.specs.Str.Parse.{digits_value}
use Rattle.std.specs.Result.{result_ok}
use Rattle.std.specs.Net.Text.{ipv4_text}
use Rattle.std.specs.Net.Reader.{read_ipv4}
use Rattle.std.specs.List.{slice_split, join_with_byte}
use Rattle.hex.specs.Hex.{encode_lower, decode_of}
use Rattle.cip_types.specs.declared.names.Node.{Node}
use Rattle.cip_types.specs.declared.names.ConnId.{ConnId}

-- WHAT IS WRITTEN

-- an address
abbrev pub node_word : Node → List ℕ
node_word node = ipv4_text (to_be_bytes w32 node.0)

-- the addresses of nodes, separated by commas; a dash for none
abbrev pub nodes_word : List Node → List ℕ
nodes_word [] = codes "-"
nodes_word (node ∷ nodes) = node_word node ++ flat_map (λ other. codes "," ++ node_word other) nodes

-- bytes, in lower case; a dash for none
abbrev pub bytes_word : List ℕ → List ℕ
bytes_word [] = codes "-"
bytes_word (byte ∷ bytes) = encode_lower (byte ∷ bytes)

-- a connection id, as eight hexadecimal digits
abbrev pub id_word : ConnId → List ℕ
id_word id = encode_lower (to_be_bytes w32 id.0)

-- a general status, as two hexadecimal digits
abbrev pub general_word : ℕ → List ℕ
general_word general = encode_lower (general ∷ [])

-- an extended status, as four hexadecimal digits; a dash for none
abbrev pub extended_word : Option ℕ → List ℕ
extended_word None = codes "-"
extended_word (Some extended) = encode_lower (to_be_bytes w16 extended)

-- the line of these words
abbrev pub line_text : List (List ℕ) → List ℕ
line_text words = join_with_byte 32 words ++ codes "\n"

-- WHAT IS READ

-- the words of a line, which single spaces separate
abbrev pub words_of : List ℕ → List (List ℕ)
words_of line = slice_split (λ byte. byte == 32) line

-- whether a word is this one
abbrev pub is_word : List ℕ → List ℕ → Bool
is_word expected word = bytes_eq word expected

-- a dash stands for nothing
abbrev pub is_dash : List ℕ → Bool
is_dash word = is_word (codes "-") word

-- whether a word begins with no plus, and with a zero only where that is all
abbrev pub is_short_form : List ℕ → Bool
is_short_form [] = true
is_short_form (digit ∷ digits) = if digit == 43 then false else (if digit == 48 then length digits == 0 else true)

-- whether a word is digits, with no needless zero in front
abbrev pub is_numeral : List ℕ → Bool
is_numeral word = is_short_form word && (all_ascii_digits word && nat_lt 0 (length word))

-- the number of so many bits that a word writes
unfoldable pub number_of : ℕ → List ℕ → Option ℕ
number_of bits word = if is_numeral word && nat_lt (digits_value 10 word) (2 ^ bits) then Some (digits_value 10 word) else None

-- the number of an instance that a word writes; none by a dash
unfoldable pub instance_of : List ℕ → Option (Option ℕ)
instance_of word = if is_dash word then Some None else option_map Some (number_of 32 word)

abbrev pub address_bytes_only : List ℕ × List ℕ → Option Node
address_bytes_only read = if length read.1 == 0 then Some (record { 0 = from_be_bytes w32 read.0 }) else None

-- the address that a word writes, and nothing behind it
unfoldable pub node_of : List ℕ → Option Node
node_of word = option_and_then address_bytes_only (read_ipv4 word)

-- the bytes that digits of either case spell; no digits spell none
abbrev pub digits_of : List ℕ → Option (List ℕ)
digits_of [] = None
digits_of (digit ∷ digits) = result_ok (decode_of (digit ∷ digits))

-- the bytes that a word spells, none by a dash
unfoldable pub bytes_of : List ℕ → Option (List ℕ)
bytes_of word = if is_dash word then Some [] else digits_of word

abbrev pub id_of_bytes : List ℕ → Option ConnId
id_of_bytes bytes = if length bytes == 4 then Some (record { 0 = from_be_bytes w32 bytes }) else None

-- the connection id that eight digits of either case spell
unfoldable pub id_of : List ℕ → Option ConnId
id_of word = option_and_then id_of_bytes (digits_of word)

abbrev pub general_of_bytes : List ℕ → Option ℕ
general_of_bytes [] = None
general_of_bytes (byte ∷ []) = Some byte
general_of_bytes (byte ∷ next ∷ bytes) = None

-- the general status that two digits of either case spell
unfoldable pub general_of : List ℕ → Option ℕ
general_of word = option_and_then general_of_bytes (digits_of word)

abbrev pub extended_of_bytes : List ℕ → Option (Option ℕ)
extended_of_bytes bytes = if length bytes == 2 then Some (Some (from_be_bytes w16 bytes)) else None

-- the extended status that four digits of either case spell; none by a dash
unfoldable pub extended_of : List ℕ → Option (Option ℕ)
extended_of word = if is_dash word then Some None else option_and_then extended_of_bytes (digits_of word)

-- the addresses that words write, each an address
abbrev pub all_nodes : List (List ℕ) → Option (List Node)
all_nodes [] = Some []
all_nodes (word ∷ words) = option_and_then (λ node. option_map (λ nodes. node ∷ nodes) (all_nodes words)) (node_of word)

-- the addresses that a word lists, separated by commas; none by a dash
unfoldable pub nodes_of : List ℕ → Option (List Node)
nodes_of word = if is_dash word then Some [] else all_nodes (slice_split (λ byte. byte == 44) word)
