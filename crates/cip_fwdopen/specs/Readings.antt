-- The results of reading bytes in a format (Volume 1, chapter 3, not enough data, too much data).
use Rattle.std.specs.Prelude.{ℕ, List, Result, Ok, Err, slice_index}
use Rattle.cip_types.specs.Texts.{Lacks, Exceeds, Found, whole, short, long, Tailed}
use Rattle.cip_fwdopen.specs.declared.fault.ReadFault.{ReadFault}
use Rattle.cip_fwdopen.specs.declared.fault.ReadFault.TheVariants.{NotEnough, TooMuch, Path}

-- a result, with its value seen by view
abbrev pub seen : {X Y : Type 0} → (X → Y) → Result X ReadFault → Result Y ReadFault
seen view (Ok x) = Ok (view x)
seen view (Err f) = Err f

-- the result is a reading of the bytes, in a format where no text begins another
abbrev pub IsReadingOf : {P : Type 0} → (List ℕ → P → Type 0) → List ℕ → Result P ReadFault → Type 0
IsReadingOf IsText bytes (Ok p) = IsText bytes p
IsReadingOf IsText bytes (Err NotEnough) = Lacks IsText bytes
IsReadingOf IsText bytes (Err TooMuch) = Exceeds IsText bytes
IsReadingOf IsText bytes (Err (Path f)) = ⊥

-- the bytes are no text of a format
abbrev pub IsNoText : {P : Type 0} → (List ℕ → P → Type 0) → List ℕ → Type 0
IsNoText {P} IsText bytes = (p : P) → IsText bytes p → ⊥

-- the result is a reading of the bytes, in a format whose texts may begin others: a text reads as itself, bytes that
-- are none and begin one are not enough, others are too much
abbrev pub IsReadingAmong : {P : Type 0} → (List ℕ → P → Type 0) → List ℕ → Result P ReadFault → Type 0
IsReadingAmong IsText bytes (Ok p) = IsText bytes p
IsReadingAmong IsText bytes (Err NotEnough) = IsNoText IsText bytes × Lacks IsText bytes
IsReadingAmong IsText bytes (Err TooMuch) = IsNoText IsText bytes × ¬ Lacks IsText bytes × Exceeds IsText bytes
IsReadingAmong IsText bytes (Err (Path f)) = ⊥

-- bytes against the texts of a format, as a result
abbrev pub answer_of : {P : Type 0} → Found P → Result P ReadFault
answer_of (whole p) = Ok p
answer_of short = Err NotEnough
answer_of long = Err TooMuch

-- the number at a place of a fixed part, counted from 0
abbrev pub number : Tailed → ℕ → ℕ
number text place = slice_index text.0 place
