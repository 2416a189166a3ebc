-- Texts in general: the faults of bytes that are no text of a format, and formats of fixed fields with as many
-- bytes after them as the fields state (Volume 1, appendix C).
use Rattle.std.specs.Prelude.{◌≡◌, ℕ, ◌<◌, nat_lt, if◌then◌else◌, List, ◌++◌, length, Option, Some, None}
use Rattle.std.specs.Int.{Width}
use Rattle.cip_types.specs.Fields.{fields_text, AreFields, fields_at}

-- the bytes are the front of a longer text
abbrev pub Lacks : {P : Type 0} → (List ℕ → P → Type 0) → List ℕ → Type 0
Lacks {P} IsText bytes = (more : List ℕ) × (0 < length more) × ((p : P) × IsText (bytes ++ more) p)

-- bytes follow a text
abbrev pub Exceeds : {P : Type 0} → (List ℕ → P → Type 0) → List ℕ → Type 0
Exceeds {P} IsText bytes = (front extra : List ℕ) × (0 < length extra) × (bytes ≡ front ++ extra) × ((p : P) × IsText front p)

-- no text begins another, and each has one meaning
pub record IsPrefixFree {P : Type 0} (IsText : List ℕ → P → Type 0) : Type 0 where
  pub apart : (t t' u u' : List ℕ) (p p' : P) → IsText t p → IsText t' p' → t ++ u ≡ t' ++ u' → (t ≡ t') × (p ≡ p')

-- bytes against the texts of a format: one of them, too few bytes, or too many
pub data Found (P : Type 0) : Type 0 where
  whole : P → Found P
  short : Found P
  long : Found P

abbrev pub IsFound : {P : Type 0} → (List ℕ → P → Type 0) → List ℕ → Found P → Type 0
IsFound IsText bytes (whole p) = IsText bytes p
IsFound IsText bytes short = Lacks IsText bytes
IsFound IsText bytes long = Exceeds IsText bytes

-- the texts of a format, by a function of their contents
abbrev pub IsImage : {P Q : Type 0} → (P → Q) → (List ℕ → P → Type 0) → List ℕ → Q → Type 0
IsImage {P} made IsText bytes q = (p : P) × IsText bytes p × (made p ≡ q)

abbrev pub found_image : {P Q : Type 0} → (P → Q) → Found P → Found Q
found_image made (whole p) = whole (made p)
found_image made short = short
found_image made long = long

-- the numbers of a fixed part, and the bytes after it
abbrev pub Tailed : Type 0
Tailed = List ℕ × List ℕ

-- a fixed part, and as many bytes after it as its numbers state
abbrev pub IsTailedText : List Width → (List ℕ → ℕ) → List ℕ → Tailed → Type 0
IsTailedText ws tail_len text p = AreFields ws p.0 × (length p.1 ≡ tail_len p.0) × (text ≡ fields_text ws p.0 ++ p.1)

-- the bytes after the fixed part against their stated length
abbrev pub tail_found : ℕ → Tailed → Found Tailed
tail_found len p = if nat_lt (length p.1) len then short else (if nat_lt len (length p.1) then long else whole p)

abbrev pub fixed_found : (List ℕ → ℕ) → Option Tailed → Found Tailed
fixed_found tail_len None = short
fixed_found tail_len (Some p) = tail_found (tail_len p.0) p

-- the reading of bytes as such a text
abbrev pub tailed_found : List Width → (List ℕ → ℕ) → List ℕ → Found Tailed
tailed_found ws tail_len bytes = fixed_found tail_len (fields_at ws bytes)
