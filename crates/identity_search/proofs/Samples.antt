-- A reply, worked by hand from the format, and what is none.
use Rattle.std.specs.Prelude.{◌≡◌, ℕ, List, [], ◌∷◌, Ok, Err, refl}
use Rattle.identity_search.specs.Reading.Items.{IdentityFields, is_head, is_internet, socket_at, device_at, identity_at, item_reading}
use Rattle.identity_search.specs.declared.reading.item.IdentityFault.TheVariants as fault

-- an item of this length, of a socket address of this family, and a name of this length; then name and state
item_of : (length family name_len : ℕ) → List ℕ → List ℕ
item_of length family name_len rest =
    0x01 ∷ 0x00 ∷ 0x0C ∷ 0x00 ∷ length ∷ 0x00 ∷ 0x01 ∷ 0x00 ∷ 0x00 ∷ family ∷ 0xAF ∷ 0x12 ∷ 0xC0 ∷ 0xA8 ∷ 0x01 ∷ 0x0A ∷
    0x00 ∷ 0x00 ∷ 0x00 ∷ 0x00 ∷ 0x00 ∷ 0x00 ∷ 0x00 ∷ 0x00 ∷ 0x01 ∷ 0x00 ∷ 0x0C ∷ 0x00 ∷ 0x07 ∷ 0x00 ∷ 0x02 ∷ 0x03 ∷
    0x30 ∷ 0x00 ∷ 0x78 ∷ 0x56 ∷ 0x34 ∷ 0x12 ∷ name_len ∷ rest

-- a communications adapter named Pump, of vendor 1, product 7, revision 2.3, at 192.168.1.10, port 44818
pump : IdentityFields
pump = record {
  at = record { port = 44818; address = record { 0 = 0xC0A8010A } };
  device = record { vendor = 1; device_type = 12; product = 7; major = 2; minor = 3 };
  status = 0x0030;
  serial = 0x12345678;
  name = 0x50 ∷ 0x75 ∷ 0x6D ∷ 0x70 ∷ [];
  state = 3;
}

pump_is_read : item_reading (item_of 0x26 2 4 (0x50 ∷ 0x75 ∷ 0x6D ∷ 0x70 ∷ 0x03 ∷ [])) ≡ Ok pump
unfolding item_of pump is_head is_internet socket_at device_at identity_at
pump_is_read = refl

another_family : item_reading (item_of 0x26 1 4 (0x50 ∷ 0x75 ∷ 0x6D ∷ 0x70 ∷ 0x03 ∷ [])) ≡ Err fault.Family
unfolding item_of is_head is_internet
another_family = refl

another_length : item_reading (item_of 0x25 2 4 (0x50 ∷ 0x75 ∷ 0x6D ∷ 0x70 ∷ 0x03 ∷ [])) ≡ Err fault.Item
unfolding item_of is_head
another_length = refl

a_longer_name : item_reading (item_of 0x26 2 5 (0x50 ∷ 0x75 ∷ 0x6D ∷ 0x70 ∷ 0x03 ∷ [])) ≡ Err fault.Name
unfolding item_of is_head is_internet
a_longer_name = refl

no_name : item_reading (item_of 0x21 2 0 []) ≡ Err fault.Truncated
unfolding item_of
no_name = refl
