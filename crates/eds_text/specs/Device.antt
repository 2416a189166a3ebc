-- The sections of the device and of its class (Volume 1, chapter 7, electronic data sheets: Device, Device Classification).
use Rattle.std.specs.Prelude.{ℕ, ◌==◌, if◌then◌else◌, List, ◌++◌, codes, decimal, Option, Some, None}
use Rattle.cip_types.specs.declared.names.Identity.{Identity}
use Rattle.eds_text.specs.Names.{ShownNames}

-- an entry with a number
unfoldable pub number_line : (key : List ℕ) → ℕ → List ℕ
number_line key number = codes "        " ++ (key ++ (codes " = " ++ (decimal number ++ codes ";\n")))

-- an entry with a name; where none is given it is a word and a number
unfoldable pub name_line : (key word : List ℕ) → ℕ → Option (List ℕ) → List ℕ
name_line key word number (Some name) = codes "        " ++ (key ++ (codes " = \"" ++ (name ++ codes "\";\n")))
name_line key word number None = codes "        " ++ (key ++ (codes " = \"" ++ (word ++ (codes " " ++ (decimal number ++ codes "\";\n")))))

-- the name of a device type (Volume 1, chapter 6, device profiles)
unfoldable pub type_line : ℕ → List ℕ
type_line device_type =
    if device_type == 12 then codes "        ProdTypeStr = \"Communications Adapter\";\n"
    else if device_type == 43 then codes "        ProdTypeStr = \"Generic Device (keyable)\";\n"
    else codes "        ProdTypeStr = \"Device type " ++ (decimal device_type ++ codes "\";\n")

unfoldable pub vendor_lines : Option (List ℕ) → Identity → List ℕ
vendor_lines name identity = number_line (codes "VendCode") identity.vendor ++ name_line (codes "VendName") (codes "Vendor") identity.vendor name

unfoldable pub number_lines : Identity → List ℕ
number_lines identity =
    number_line (codes "ProdType") identity.device_type
    ++ (type_line identity.device_type
    ++ (number_line (codes "ProdCode") identity.product
    ++ (number_line (codes "MajRev") identity.major
    ++ number_line (codes "MinRev") identity.minor)))

unfoldable pub product_lines : ShownNames → Identity → List ℕ
product_lines names identity =
    name_line (codes "ProdName") (codes "Product") identity.product names.product
    ++ (name_line (codes "Catalog") (codes "Catalog") identity.product names.catalog
    ++ codes "\n[Device Classification]\n        Class1 = EtherNetIP;\n")

-- the device: vendor, type, product, revision, and their names; its class
unfoldable pub device_text : ShownNames → Identity → List ℕ
device_text names identity = codes "\n[Device]\n" ++ (vendor_lines names.vendor identity ++ (number_lines identity ++ product_lines names identity))
