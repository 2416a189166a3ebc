-- The names in a data sheet (Volume 1, chapter 7, electronic data sheets: character strings).
use Rattle.std.specs.Prelude.{ℕ, ◌&&◌, ◌==◌, nat_le, Bool, List, length, Option, Some, None, if◌then◌else◌, true, false}
use Rattle.std.specs.Borrow.{Bor}
use Rattle.std.specs.List.{list_all}
use Rattle.std.specs.Option.{option_map}
use Rattle.adapter_table.specs.declared.profile.Description.{Description}
use Rattle.eds_text.specs.declared.names.SheetNames.{SheetNames}

-- a printable character, and neither a quote nor a backslash
unfoldable pub is_name_byte : ℕ → Bool
is_name_byte byte = nat_le 32 byte && (nat_le byte 126 && (if byte == 34 then false else if byte == 92 then false else true))

abbrev pub is_name_len : ℕ → Bool
is_name_len len = nat_le 1 len && nat_le len 32

-- 1 to 32 of them
unfoldable pub is_name : List ℕ → Bool
is_name text = is_name_len (length text) && list_all is_name_byte text

-- a name, if it is given
abbrev pub given_name : Option (Bor (List ℕ)) → Option (List ℕ)
given_name given = option_map (λ lent. lent.now) given

-- The name of a product, if it is given; else the name of the device's description, if that can be one.
abbrev pub described_name : Option Description → Option (List ℕ)
described_name None = None
described_name (Some described) = if is_name described.name then Some described.name else None

abbrev pub product_name : Option (List ℕ) → Option Description → Option (List ℕ)
product_name (Some given) described = Some given
product_name None described = described_name described

-- the names that are given
pub record ShownNames : Type 0 where
  pub vendor : Option (List ℕ)
  pub product : Option (List ℕ)
  pub catalog : Option (List ℕ)

abbrev pub shown_names : SheetNames → ShownNames
shown_names names = record { vendor = given_name names.vendor; product = given_name names.product; catalog = given_name names.catalog }

-- the names in the data sheet of a device of this description
abbrev pub sheet_names : ShownNames → Option Description → ShownNames
sheet_names names described = record names { product = product_name names.product described }
