-- What worked datagrams say.
use Rattle.std.proofs.Common.{◌≡◌, ℕ, List, [], ◌∷◌, ◌++◌, take, Some, None, Ok, Err, true, false, refl}
use Rattle.cip_datagram.specs.declared.datagram.DatagramFault.TheVariants.{Truncated, Items, Trailing}
use Rattle.cip_datagram.specs.Datagram.{DatagramFields, datagram_text}
use Rattle.cip_datagram.specs.Header.{mode_header, header_at}
use Rattle.cip_datagram.specs.Reading.{datagram_reading}

-- a header that says run, and four bytes
abbrev payload : List ℕ
payload = 1 ∷ 0 ∷ 0 ∷ 0 ∷ 0x11 ∷ 0x22 ∷ 0x33 ∷ 0x44 ∷ []

abbrev bytes : List ℕ
bytes = 0x02 ∷ 0x00 ∷ 0x02 ∷ 0x80 ∷ 0x08 ∷ 0x00 ∷ 0x01 ∷ 0x00 ∷ 0x00 ∷ 0x10 ∷ 0x01 ∷ 0x00 ∷ 0x00 ∷ 0x00 ∷ 0xB1 ∷ 0x00 ∷ 0x0A ∷ 0x00 ∷ 0x01 ∷ 0x00 ∷ 0x01 ∷ 0x00 ∷ 0x00 ∷ 0x00 ∷ 0x11 ∷ 0x22 ∷ 0x33 ∷ 0x44 ∷ []

abbrev sent : DatagramFields
sent = record { connection = 0x1000_0001; sequence = 1; count = 1; payload = payload }

-- no two fields alike, and no data
abbrev bare : DatagramFields
bare = record { connection = 0x1122_3344; sequence = 0x5566_7788; count = 0x99AA; payload = [] }

pub sent_read : datagram_reading bytes ≡ Ok sent
unfolding datagram_reading
sent_read = refl

pub sent_written : datagram_text sent ≡ bytes
sent_written = refl

pub bare_read : datagram_reading (2 ∷ 0 ∷ 0x02 ∷ 0x80 ∷ 8 ∷ 0 ∷ 0x44 ∷ 0x33 ∷ 0x22 ∷ 0x11 ∷ 0x88 ∷ 0x77 ∷ 0x66 ∷ 0x55 ∷ 0xB1 ∷ 0 ∷ 2 ∷ 0 ∷ 0xAA ∷ 0x99 ∷ []) ≡ Ok bare
unfolding datagram_reading
bare_read = refl

pub bare_written : datagram_text bare ≡ 2 ∷ 0 ∷ 0x02 ∷ 0x80 ∷ 8 ∷ 0 ∷ 0x44 ∷ 0x33 ∷ 0x22 ∷ 0x11 ∷ 0x88 ∷ 0x77 ∷ 0x66 ∷ 0x55 ∷ 0xB1 ∷ 0 ∷ 2 ∷ 0 ∷ 0xAA ∷ 0x99 ∷ []
bare_written = refl

pub no_bytes : datagram_reading [] ≡ Err Truncated
unfolding datagram_reading
no_bytes = refl

pub within_the_fixed_part : datagram_reading (take 19 bytes) ≡ Err Truncated
unfolding datagram_reading
within_the_fixed_part = refl

pub without_data : datagram_reading (take 20 bytes) ≡ Err Truncated
unfolding datagram_reading
without_data = refl

pub within_the_data : datagram_reading (take 27 bytes) ≡ Err Truncated
unfolding datagram_reading
within_the_data = refl

pub a_byte_behind : datagram_reading (bytes ++ 0 ∷ []) ≡ Err Trailing
unfolding datagram_reading
a_byte_behind = refl

-- other items go before too little data
pub other_item : datagram_reading (take 20 (0x02 ∷ 0x00 ∷ 0x02 ∷ 0x80 ∷ 0x08 ∷ 0x00 ∷ 0x01 ∷ 0x00 ∷ 0x00 ∷ 0x10 ∷ 0x01 ∷ 0x00 ∷ 0x00 ∷ 0x00 ∷ 0xB2 ∷ 0x00 ∷ 0x0A ∷ 0x00 ∷ 0x01 ∷ 0x00 ∷ 0x01 ∷ 0x00 ∷ 0x00 ∷ 0x00 ∷ 0x11 ∷ 0x22 ∷ 0x33 ∷ 0x44 ∷ [])) ≡ Err Items
unfolding datagram_reading
other_item = refl

-- too few bytes go before other items
pub other_item_cut : datagram_reading (take 19 (0x02 ∷ 0x00 ∷ 0x02 ∷ 0x80 ∷ 0x08 ∷ 0x00 ∷ 0x01 ∷ 0x00 ∷ 0x00 ∷ 0x10 ∷ 0x01 ∷ 0x00 ∷ 0x00 ∷ 0x00 ∷ 0xB2 ∷ 0x00 ∷ 0x0A ∷ 0x00 ∷ 0x01 ∷ 0x00 ∷ 0x01 ∷ 0x00 ∷ 0x00 ∷ 0x00 ∷ 0x11 ∷ 0x22 ∷ 0x33 ∷ 0x44 ∷ [])) ≡ Err Truncated
unfolding datagram_reading
other_item_cut = refl

pub three_items : datagram_reading (3 ∷ 0x00 ∷ 0x02 ∷ 0x80 ∷ 0x08 ∷ 0x00 ∷ 0x01 ∷ 0x00 ∷ 0x00 ∷ 0x10 ∷ 0x01 ∷ 0x00 ∷ 0x00 ∷ 0x00 ∷ 0xB1 ∷ 0x00 ∷ 0x0A ∷ 0x00 ∷ 0x01 ∷ 0x00 ∷ 0x01 ∷ 0x00 ∷ 0x00 ∷ 0x00 ∷ 0x11 ∷ 0x22 ∷ 0x33 ∷ 0x44 ∷ []) ≡ Err Items
unfolding datagram_reading
three_items = refl

pub other_address : datagram_reading (0x02 ∷ 0x00 ∷ 0 ∷ 0x80 ∷ 0x08 ∷ 0x00 ∷ 0x01 ∷ 0x00 ∷ 0x00 ∷ 0x10 ∷ 0x01 ∷ 0x00 ∷ 0x00 ∷ 0x00 ∷ 0xB1 ∷ 0x00 ∷ 0x0A ∷ 0x00 ∷ 0x01 ∷ 0x00 ∷ 0x01 ∷ 0x00 ∷ 0x00 ∷ 0x00 ∷ 0x11 ∷ 0x22 ∷ 0x33 ∷ 0x44 ∷ []) ≡ Err Items
unfolding datagram_reading
other_address = refl

pub no_room_for_a_count : datagram_reading (0x02 ∷ 0x00 ∷ 0x02 ∷ 0x80 ∷ 0x08 ∷ 0x00 ∷ 0x01 ∷ 0x00 ∷ 0x00 ∷ 0x10 ∷ 0x01 ∷ 0x00 ∷ 0x00 ∷ 0x00 ∷ 0xB1 ∷ 0x00 ∷ 1 ∷ 0x00 ∷ 0x01 ∷ 0x00 ∷ 0x01 ∷ 0x00 ∷ 0x00 ∷ 0x00 ∷ 0x11 ∷ 0x22 ∷ 0x33 ∷ 0x44 ∷ []) ≡ Err Items
unfolding datagram_reading
no_room_for_a_count = refl

pub run_read : header_at payload ≡ Some (true, 0x11 ∷ 0x22 ∷ 0x33 ∷ 0x44 ∷ [])
run_read = refl

-- bit 0 alone is judged
pub idle_read : header_at (0xFE ∷ 0xFF ∷ 0xFF ∷ 0xFF ∷ 7 ∷ []) ≡ Some (false, 7 ∷ [])
idle_read = refl

pub no_header : header_at (1 ∷ 0 ∷ 0 ∷ []) ≡ None
no_header = refl

pub run_written : mode_header true ≡ 1
run_written = refl

pub idle_written : mode_header false ≡ 0
idle_written = refl
