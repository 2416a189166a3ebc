-- What the datagram of a production is read as.
use Rattle.std.proofs.Common.{◌≡◌, ℕ, ◌+◌, ◌-◌, ◌%◌, ◌^◌, ◌<◌, ltb, length, Option, Result, Ok, Err, refl, sym, ◌∙◌, subst, arith}
use Rattle.std.proofs.lemmas.Nat.{from_le_bytes-to_le_bytes_2}
use Rattle.std.specs.Int.{w16, w32}
use Rattle.cip_types.specs.Texts.{Tailed}
use Rattle.cip_datagram.specs.declared.datagram.DatagramFault.{DatagramFault}
use Rattle.cip_datagram.specs.declared.datagram.DatagramFault.TheVariants as fault
use Rattle.cip_datagram.specs.Datagram.{DatagramFields, datagram_text, datagram_widths, datagram_numbers}
use Rattle.cip_datagram.specs.Reading.{are_items, sized_reading, parts_reading, found_reading, datagram_reading}
use Rattle.device_laws.specs.Lemmas.Texts.{again, cut, fields_cut, same_again, either}
use Rattle.device_laws.specs.Productions.{Production}
use Rattle.device_laws.specs.Productions.{IsNumbered}

-- ---- a datagram that was written

-- where it reads, its numbers come back, each by its field
pub record ComesBack (d : DatagramFields) (read : DatagramFields) : Type 0 where
  pub connection : read.connection ≡ again w32 d.connection
  pub sequence : read.sequence ≡ again w32 d.sequence
  pub count : read.count ≡ again w16 d.count
  pub payload : read.payload ≡ d.payload

abbrev pub ReadBack : DatagramFields → Result DatagramFields DatagramFault → Type 0
ReadBack d (Err why) = Unit {0}
ReadBack d (Ok read) = ComesBack d read

sized_back : (len : ℕ) (d read : DatagramFields) → ComesBack d read → ReadBack d (sized_reading len read)
sized_back len d read back =
    either (ReadBack d) (ltb (length read.payload) len) (Err fault.Truncated) _ tt
    (either (ReadBack d) (ltb len (length read.payload)) (Err fault.Trailing) (Ok read) tt back)

parts_back : (d : DatagramFields) → ReadBack d (parts_reading (cut datagram_widths (datagram_numbers d)) d.payload)
parts_back d =
    let read : DatagramFields = record { connection = again w32 d.connection; sequence = again w32 d.sequence; count = again w16 d.count; payload = d.payload } in
    either (ReadBack d) (are_items (again w16 2) (again w16 0x8002) (again w16 8) (again w16 0xB1) (again w16 (length d.payload + 2)))
    (sized_reading (again w16 (length d.payload + 2) - 2) read) (Err fault.Items)
    (sized_back (again w16 (length d.payload + 2) - 2) d read (record { connection = refl; sequence = refl; count = refl; payload = refl })) tt

pub reads_back : (d : DatagramFields) → ReadBack d (datagram_reading (datagram_text d))
unfolding datagram_reading
reads_back d = subst (λ (found : Option Tailed). ReadBack d (found_reading found)) (sym (fields_cut datagram_widths (datagram_numbers d) d.payload refl)) (parts_back d)

pub read_as : (d read : DatagramFields) → datagram_reading (datagram_text d) ≡ Ok read → ComesBack d read
read_as d read is = subst (ReadBack d) is (reads_back d)

small_again : (n : ℕ) → n < 2 ^ 16 → again w16 n ≡ n
small_again n lt = from_le_bytes-to_le_bytes_2 n lt

circle_less : (n : ℕ) → n % 2 ^ 32 < 2 ^ 32
circle_less n = omega arith

count_less : (n : ℕ) → n % 2 ^ 16 < 2 ^ 16
count_less n = omega arith

-- a numbered production's number and count come back
pub sequence_back : (p : Production) (read : DatagramFields) → IsNumbered p → ComesBack p.made.datagram read → read.sequence ≡ p.made.datagram.sequence
sequence_back p read is back = back.sequence ∙ same_again p.made.datagram.sequence (subst (λ (n : ℕ). n < 2 ^ 32) (sym is.sequence) (circle_less p.index))

pub count_back : (p : Production) (read : DatagramFields) → IsNumbered p → ComesBack p.made.datagram read → read.count ≡ p.made.datagram.count
count_back p read is back = back.count ∙ small_again p.made.datagram.count (subst (λ (n : ℕ). n < 2 ^ 16) (sym is.count) (count_less p.new_data))
