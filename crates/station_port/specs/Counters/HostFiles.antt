-- What the files of a host say: the interface of an address, and what was counted of it (Linux, /proc/net/route and /proc/net/dev).
use Rattle.std.specs.Prelude.{ℕ, zero, suc, ◌+◌, ◌-◌, ◌*◌, ◌/◌, ◌%◌, ◌^◌, ◌==◌, ◌&&◌, bit_and, nat_lt, if◌then◌else◌, Bool, false, List, [], ◌∷◌, take, drop, length, bytes_eq, codes, flat_map, option_map, option_and_then, Option, Some, None}
use Rattle.std.specs.Int.{w32, to_le_bytes, from_le_bytes}
use Rattle.std.specs.List.{position_or_len, slice_index}
use Rattle.cip_types.specs.declared.names.Node.{Node}
use Rattle.station_port.specs.Counters.HostLines.{behind_line, lines_of, word_of, behind_word, word_behind, decimal_of, hex_value}

-- THE ROUTES: behind a first line one for each. Its words are interface, network, gateway, flags, references, uses, metric and mask

-- the byte of two hexadecimal digits
abbrev pub byte_of : (high low : ℕ) → Option ℕ
byte_of high low = option_and_then (λ h. option_map (λ l. 16 * h + l) (hex_value low)) (hex_value high)

abbrev pub byte_at : List ℕ → ℕ → Option ℕ
byte_at word place = byte_of (slice_index word place) (slice_index word (place + 1))

-- an address of eight hexadecimal digits, of which the last two are its first byte
unfoldable pub address_of : List ℕ → Option ℕ
address_of word =
    if length word == 8 then
    option_and_then (λ a. option_and_then (λ b. option_and_then (λ c. option_map (λ d. from_le_bytes w32 (a ∷ b ∷ c ∷ d ∷ []))
    (byte_at word 6)) (byte_at word 4)) (byte_at word 2)) (byte_at word 0)
    else None

-- the mask of a route, if it is one to this address
abbrev pub mask_among : ℕ → (network mask : ℕ) → Option ℕ
mask_among address network mask = if bit_and address mask == network then Some mask else None

unfoldable pub mask_to : ℕ → List ℕ → Option ℕ
mask_to address line = option_and_then (λ network. option_and_then (λ mask. mask_among address network mask) (address_of (word_behind 7 line)))
    (address_of (word_behind 1 line))

abbrev pub longer : Option ℕ → Option ℕ → Option ℕ
longer None other = other
longer (Some mask) None = Some mask
longer (Some mask) (Some other) = if nat_lt mask other then Some other else Some mask

-- the longest mask of the routes to an address
unfoldable pub longest_from : Option ℕ → ℕ → List (List ℕ) → Option ℕ
longest_from so_far address [] = so_far
longest_from so_far address (line ∷ lines) = longest_from (longer so_far (mask_to address line)) address lines

abbrev pub has_mask : Option ℕ → ℕ → Bool
has_mask None mask = false
has_mask (Some other) mask = other == mask

-- the interface of the first route to an address with this mask
unfoldable pub interface_with : ℕ → ℕ → List (List ℕ) → Option (List ℕ)
interface_with address mask [] = None
interface_with address mask (line ∷ lines) = if has_mask (mask_to address line) mask then Some (word_of line) else interface_with address mask lines

-- the interface of an address: the loopback for one that begins with 127, and else that of the route to it with the longest mask
abbrev pub interface_among : ℕ → List (List ℕ) → Option (List ℕ)
interface_among address lines = option_and_then (λ mask. interface_with address mask lines) (longest_from None address lines)

abbrev pub interface_of : List ℕ → Node → Option (List ℕ)
interface_of routes address =
    if address.0 / 2 ^ 24 == 127 then Some (codes "lo") else interface_among address.0 (lines_of (behind_line routes))

-- WHAT WAS COUNTED: a line for each interface, its name, a colon, and sixteen numbers

abbrev pub is_colon : ℕ → Bool
is_colon byte = byte == 58

abbrev pub colon_of : List ℕ → ℕ
colon_of line = position_or_len is_colon line

abbrev pub is_of : List ℕ → List ℕ → Bool
is_of interface line = nat_lt (colon_of line) (length line) && bytes_eq (word_of (take (colon_of line) line)) interface

-- what follows the colon in the first line of an interface
unfoldable pub counts_in : List ℕ → List (List ℕ) → Option (List ℕ)
counts_in interface [] = None
counts_in interface (line ∷ lines) = if is_of interface line then Some (drop (colon_of line + 1) line) else counts_in interface lines

-- the first so many words, each a number
unfoldable pub numbers_in : ℕ → List ℕ → Option (List ℕ)
numbers_in zero line = Some []
numbers_in (suc count) line = option_and_then (λ number. option_map (λ more. number ∷ more) (numbers_in count (behind_word line))) (decimal_of (word_of line))

-- the packets that are not multicast ones
abbrev pub unicast : (packets multicast : ℕ) → ℕ
unicast packets multicast = (packets + 2 ^ 32 - multicast) % 2 ^ 32

-- received: bytes, packets, errors, drops, fifo errors, frame errors, compressed and multicast packets; sent: bytes, packets, errors,
-- drops, fifo errors, collisions, carrier errors and compressed packets. The counters of the interface (attribute 4) are octets, unicast
-- and other packets, discards, errors and unknown protocols received; octets, unicast and other packets, discards and errors sent. Those
-- of its medium (attribute 5) are alignment and check sequence errors, single and multiple collisions, test errors, deferred
-- transmissions, late and excessive collisions, transmit, carrier sense and length errors, receive errors (Volume 2, chapter 5)
abbrev pub counters_of : List ℕ → List ℕ
counters_of n =
    slice_index n 0 ∷ unicast (slice_index n 1) (slice_index n 7) ∷ slice_index n 7 ∷ slice_index n 3 ∷ slice_index n 2 ∷ 0
    ∷ slice_index n 8 ∷ slice_index n 9 ∷ 0 ∷ slice_index n 11 ∷ slice_index n 10
    ∷ slice_index n 5 ∷ 0 ∷ 0 ∷ slice_index n 13 ∷ 0 ∷ 0 ∷ 0 ∷ 0 ∷ slice_index n 12 ∷ slice_index n 14 ∷ 0 ∷ slice_index n 4 ∷ []

abbrev pub counters_text : List ℕ → List ℕ
counters_text numbers = flat_map (to_le_bytes w32) (counters_of numbers)

abbrev pub link_counters : List ℕ → List ℕ → Option (List ℕ)
link_counters counts interface = option_map counters_text (option_and_then (numbers_in 16) (counts_in interface (lines_of counts)))
