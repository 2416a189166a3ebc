-- The values of attributes as they are printed, by their types (Volume 1, appendix C, data types). Numbers are
-- little-endian. Bytes that have not the type's form are printed as they are.
use Rattle.std.specs.Prelude.{ℕ, ◌%◌, ◌==◌, ◌&&◌, nat_lt, nat_le, if◌then◌else◌, List, [], ◌∷◌, ◌++◌, length, take, drop, map, flat_map, slice_index, codes, decimal, Option, Some, None}
use Rattle.std.specs.Int.{w16, w32, from_le_bytes, to_be_bytes}
use Rattle.hex.specs.Hex.{encode_lower}
use Rattle.cip_types.specs.Fields.{field_at}
use Rattle.cip_types.specs.Parts.{number_in}
use Rattle.trace_words.specs.Words.{bytes_word, node_word}
use Rattle.station_lines.specs.declared.attributes.kind.AttributeType.{AttributeType}
use Rattle.station_lines.specs.declared.attributes.kind.AttributeType.TheVariants.{Usint, Uint, Udint, Word, Dword, Revision, ShortString, CountedString, Interface, PhysicalAddress, Raw}

-- bytes as they are; a dash for none
abbrev pub raw_text : List ℕ → List ℕ
raw_text bytes = codes "bytes " ++ bytes_word bytes

-- NUMBERS

abbrev pub usint_text : List ℕ → List ℕ
usint_text bytes = if length bytes == 1 then decimal (slice_index bytes 0) else raw_text bytes

abbrev pub uint_text : List ℕ → List ℕ
uint_text bytes = if length bytes == 2 then decimal (from_le_bytes w16 bytes) else raw_text bytes

abbrev pub udint_text : List ℕ → List ℕ
udint_text bytes = if length bytes == 4 then decimal (from_le_bytes w32 bytes) else raw_text bytes

-- bits, as hexadecimal digits of their number
abbrev pub word_text : List ℕ → List ℕ
word_text bytes = if length bytes == 2 then encode_lower (to_be_bytes w16 (from_le_bytes w16 bytes)) else raw_text bytes

abbrev pub dword_text : List ℕ → List ℕ
dword_text bytes = if length bytes == 4 then encode_lower (to_be_bytes w32 (from_le_bytes w32 bytes)) else raw_text bytes

-- major and minor revision
abbrev pub revision_text : List ℕ → List ℕ
revision_text bytes = if length bytes == 2 then decimal (slice_index bytes 0) ++ (codes "." ++ decimal (slice_index bytes 1)) else raw_text bytes

-- TEXTS

-- a byte of a text; a question mark for what is no printable character of ASCII
abbrev pub shown_byte : ℕ → ℕ
shown_byte byte = if nat_le 32 byte && nat_le byte 126 then byte else 63

abbrev pub quoted_text : List ℕ → List ℕ
quoted_text text = codes "\"" ++ (map shown_byte text ++ codes "\"")

-- a text behind one byte, which is its length
abbrev pub short_string_text : List ℕ → List ℕ
short_string_text [] = raw_text []
short_string_text (count ∷ text) = if length text == count then quoted_text text else raw_text (count ∷ text)

-- a text of this length, and at most one pad byte behind one of odd length
abbrev pub padded_text : ℕ → List ℕ → Option (List ℕ)
padded_text count bytes =
    if nat_lt (length bytes) count then None
    else if nat_lt (count % 2) (length (drop count bytes)) then None
    else Some (take count bytes)

abbrev pub text_behind : Option (ℕ × List ℕ) → Option (List ℕ)
text_behind None = None
text_behind (Some front) = padded_text front.0 front.1

-- the text behind two bytes, which are its length
abbrev pub counted_text : List ℕ → Option (List ℕ)
counted_text bytes = text_behind (field_at w16 bytes)

abbrev pub string_with : List ℕ → Option (List ℕ) → List ℕ
string_with bytes None = raw_text bytes
string_with bytes (Some text) = quoted_text text

abbrev pub string_text : List ℕ → List ℕ
string_text bytes = string_with bytes (counted_text bytes)

-- ADDRESSES

-- the address in four bytes from this position on
abbrev pub address_text : List ℕ → ℕ → List ℕ
address_text bytes at = node_word (record { 0 = number_in w32 bytes at })

-- address, mask, gateway and two name servers
abbrev pub addresses_text : List ℕ → List ℕ
addresses_text bytes =
    (codes "address " ++ address_text bytes 0)
    ++ ((codes " mask " ++ address_text bytes 4)
    ++ ((codes " gateway " ++ address_text bytes 8)
    ++ ((codes " name-server " ++ address_text bytes 12)
    ++ (codes " name-server-2 " ++ address_text bytes 16))))

abbrev pub interface_with : List ℕ → Option (List ℕ) → List ℕ
interface_with bytes None = raw_text bytes
interface_with bytes (Some domain) = addresses_text bytes ++ (codes " domain " ++ quoted_text domain)

-- the addresses and the domain of an interface
abbrev pub interface_text : List ℕ → List ℕ
interface_text bytes = if nat_lt (length bytes) 20 then raw_text bytes else interface_with bytes (counted_text (drop 20 bytes))

-- pairs of digits with colons between them
abbrev pub pairs_text : List ℕ → List ℕ
pairs_text [] = []
pairs_text (byte ∷ bytes) = encode_lower (byte ∷ []) ++ flat_map (λ other. codes ":" ++ encode_lower (other ∷ [])) bytes

abbrev pub physical_text : List ℕ → List ℕ
physical_text bytes = if length bytes == 6 then pairs_text bytes else raw_text bytes

-- ALL

-- bytes as a value of this type
unfoldable pub value_text : AttributeType → List ℕ → List ℕ
value_text Usint bytes = usint_text bytes
value_text Uint bytes = uint_text bytes
value_text Udint bytes = udint_text bytes
value_text Word bytes = word_text bytes
value_text Dword bytes = dword_text bytes
value_text Revision bytes = revision_text bytes
value_text ShortString bytes = short_string_text bytes
value_text CountedString bytes = string_text bytes
value_text Interface bytes = interface_text bytes
value_text PhysicalAddress bytes = physical_text bytes
value_text Raw bytes = raw_text bytes
