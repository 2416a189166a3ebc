-- The line of a device that answers a ListIdentity request.
use Rattle.std.specs.Prelude.{ℕ, ◌&&◌, nat_le, if◌then◌else◌, List, ◌++◌, codes, decimal, map}
use Rattle.std.specs.Int.{w16, to_be_bytes}
use Rattle.hex.specs.Hex.{encode_lower}
use Rattle.cip_types.specs.declared.names.Identity.{Identity}
use Rattle.cip_types.specs.declared.names.Node.{Node}
use Rattle.identity_search.specs.Reading.Items.{IdentityFields}
use Rattle.trace_words.specs.Words.{node_word}

unfoldable pub device_words : Identity → List ℕ
device_words device =
    codes " vendor " ++ (decimal device.vendor ++ (codes " type " ++ (decimal device.device_type ++ (codes " product " ++ (decimal device.product
    ++ (codes " revision " ++ (decimal device.major ++ (codes "." ++ decimal device.minor))))))))

abbrev pub number_words : (serial state : ℕ) → List ℕ
number_words serial state = codes " serial " ++ (decimal serial ++ (codes " state " ++ (decimal state ++ codes " name ")))

-- the status word in hexadecimal digits, serial number and state
unfoldable pub state_words : (status serial state : ℕ) → List ℕ
state_words status serial state = codes " status " ++ (encode_lower (to_be_bytes w16 status) ++ number_words serial state)

-- the line up to the name
abbrev pub line_words : Node → IdentityFields → List ℕ
line_words from found = node_word from ++ (device_words found.device ++ state_words found.status found.serial found.state)

-- a byte of a name; a question mark for what is no printable character of ASCII
abbrev pub shown_byte : ℕ → ℕ
shown_byte byte = if nat_le 32 byte && nat_le byte 126 then byte else 63

-- the address of the sender, its device, and the name
abbrev pub identity_line : Node → IdentityFields → List ℕ
identity_line from found = line_words from found ++ (map shown_byte found.name ++ codes "\n")
