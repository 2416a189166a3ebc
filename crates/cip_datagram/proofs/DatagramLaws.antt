-- What crates above rest on: the reading of bytes as a function is the one that the relation allows, and
-- what is written is read as it was.
use Rattle.std.proofs.Common.{◌≡◌, ℕ, ◌+◌, ◌-◌, ◌<◌, ◌≤◌, Bool, true, false, ltb, List, [], ◌∷◌, ◌++◌, length, get_or, take, drop, replicate, Some, None, Option, Result, Ok, Err, refl, sym, ap, subst, ◌∙◌, append_assoc, arith, inl, inr}
use Rattle.std.specs.List.{AllByRecursion}
use Rattle.std.proofs.lemmas.Bool.{cases_Bool, eqb-true, ltb-true, ltb-false, le-ltb, leb-true, le-leb, and_parts, false≢true}
use Rattle.std.proofs.lemmas.List.{take_at, take-append-drop, take-append-le, length-append, length-take, length-drop, append-nil, length-replicate}
use Rattle.cip_types.specs.Fields.{fields_text, AreFields, fields_at}
use Rattle.cip_types.specs.Texts.{Lacks, Exceeds, IsPrefixFree, Tailed, IsTailedText}
use Rattle.cip_types.specs.FieldLaws.{IsBytes, IsWide, wide16, wide32, fields_taken, fields_again, fields_lack, fields_tabulated, inside}
use Rattle.cip_types.specs.TextLaws.{tailed_free, whole_lacks, whole_exceeds, lacks_exceeds}
use Rattle.cip_datagram.specs.declared.datagram.DatagramFault.{DatagramFault}
use Rattle.cip_datagram.specs.declared.datagram.DatagramFault.TheVariants as fault
use Rattle.cip_datagram.specs.Datagram.{DatagramFields, datagram_widths, datagram_numbers, datagram_text, DatagramFits, IsDatagramText, BeginsNone, IsTruncated, HasOtherItems, IsDatagramReading}
use Rattle.cip_datagram.specs.Reading.{are_items, sized_reading, parts_reading, found_reading, datagram_reading}

wide : AllByRecursion IsWide datagram_widths
wide = (wide16, (wide16, (wide16, (wide32, (wide32, (wide16, (wide16, (wide16, tt))))))))

-- the fixed part is of 20 bytes
length-fixed : (ns : List ℕ) → AreFields datagram_widths ns → length (fields_text datagram_widths ns) ≡ 20
length-fixed ns are = subst (λ (x : List ℕ). length (fields_text datagram_widths x) ≡ 20) (fields_tabulated datagram_widths 8 ns refl are) refl

-- ---- a datagram's numbers are within their fields

numbers_fit : (d : DatagramFields) → DatagramFits d → AreFields datagram_widths (datagram_numbers d)
numbers_fit d fits = (omega arith, (omega arith, (omega arith, (fits.connection, (fits.sequence, (omega arith, (omega (arith, fits.payload), (fits.count, tt))))))))

text_parts : (t u : List ℕ) (d : DatagramFields) → IsDatagramText t d → fields_at datagram_widths (t ++ u) ≡ Some (datagram_numbers d, d.payload ++ u)
text_parts t u d is =
    ap (λ (x : List ℕ). fields_at datagram_widths (x ++ u)) is.1 ∙ ap (fields_at datagram_widths) (append_assoc (fields_text datagram_widths (datagram_numbers d)) d.payload u) ∙ fields_again datagram_widths wide (datagram_numbers d) (d.payload ++ u) (numbers_fit d is.0)

length-text : (t : List ℕ) (d : DatagramFields) → IsDatagramText t d → 20 ≤ length t
length-text t d is =
    let e = ap length is.1 in
    omega (arith, e, length-append (fields_text datagram_widths (datagram_numbers d)) d.payload, length-fixed (datagram_numbers d) (numbers_fit d is.0))

-- ---- no text begins another

-- how many bytes stand behind the fixed part
abbrev payload_len : List ℕ → ℕ
payload_len ns = get_or ns 6 0 - 2

-- the datagram of the numbers and the data
abbrev datagram_of : Tailed → DatagramFields
datagram_of p = record { connection = get_or p.0 3 0; sequence = get_or p.0 4 0; count = get_or p.0 7 0; payload = p.1 }

is_tailed : (t : List ℕ) (d : DatagramFields) → IsDatagramText t d → IsTailedText datagram_widths payload_len t (datagram_numbers d, d.payload)
is_tailed t d is = (numbers_fit d is.0, omega arith, is.1)

pub datagram_free : IsPrefixFree IsDatagramText
datagram_free = record {
  apart = λ t t' u u' d d' is is' e.
      let same = (tailed_free datagram_widths wide payload_len).apart t t' u u' (datagram_numbers d, d.payload) (datagram_numbers d', d'.payload) (is_tailed t d is) (is_tailed t' d' is') e in
      (same.0, ap datagram_of same.1);
}

-- ---- the reading is one

abbrev items_of : List ℕ → Bool
items_of ns = are_items (get_or ns 0 0) (get_or ns 1 0) (get_or ns 2 0) (get_or ns 5 0) (get_or ns 6 0)

own_items : (d : DatagramFields) → items_of (datagram_numbers d) ≡ true
own_items d = le-leb 2 (length d.payload + 2) (omega arith)

-- the fixed part of a datagram has its items
begins_none : (t ns rest : List ℕ) → AreFields datagram_widths ns → t ≡ fields_text datagram_widths ns ++ rest → items_of ns ≡ false → BeginsNone (take 20 t)
begins_none t ns rest are parts other text more d is same =
    let front : take 20 t ≡ fields_text datagram_widths ns = ap (take 20) parts ∙ take_at (fields_text datagram_widths ns) rest 20 (length-fixed ns are) in
    let begins : text ≡ fields_text datagram_widths ns ++ more = same ∙ ap (λ (x : List ℕ). x ++ more) front in
    let read = sym (fields_again datagram_widths wide ns more are) ∙ ap (fields_at datagram_widths) (sym begins ∙ sym (append-nil text)) ∙ text_parts text [] d is in
    let numbers : ns ≡ datagram_numbers d = ap (λ (p : List ℕ × List ℕ). p.0) (inside (ns, more) (datagram_numbers d, d.payload ++ []) read) in
    absurd (false≢true (sym other ∙ ap items_of numbers ∙ own_items d))

-- the fixed part of a datagram, with the numbers that it may choose
abbrev fixed_text : ℕ → ℕ → ℕ → ℕ → List ℕ
fixed_text connection sequence count len = fields_text datagram_widths (2 ∷ 0x8002 ∷ 8 ∷ connection ∷ sequence ∷ 0xB1 ∷ len ∷ count ∷ [])

-- numbers within their fields
record Fits (connection sequence count len : ℕ) : Type 0 where
  connection_fits : connection < 4294967296
  sequence_fits : sequence < 4294967296
  count_fits : count < 65536
  len_fits : len < 65536

fit_with : (connection sequence count len : ℕ) (payload : List ℕ) → Fits connection sequence count len → length payload + 2 ≡ len → DatagramFits (record { connection = connection; sequence = sequence; count = count; payload = payload })
fit_with connection sequence count len payload fits full = record {
  connection = fits.connection_fits;
  sequence = fits.sequence_fits;
  count = fits.count_fits;
  payload = omega (arith, fits.len_fits);
}

too_short : (t rest : List ℕ) (connection sequence count len : ℕ) → Fits connection sequence count len → 2 ≤ len → t ≡ fixed_text connection sequence count len ++ rest → length rest < len - 2 → Lacks IsDatagramText t
too_short t rest connection sequence count len fits some parts less =
    let more = replicate (len - 2 - length rest) 0 in
    let more_len : length more ≡ len - 2 - length rest = length-replicate (len - 2 - length rest) 0 in
    let full : length (rest ++ more) + 2 ≡ len = omega (arith, length-append rest more, more_len, less, some) in
    let whole = ap (λ (x : List ℕ). x ++ more) parts ∙ append_assoc (fixed_text connection sequence count len) rest more ∙ ap (λ (n : ℕ). fixed_text connection sequence count n ++ (rest ++ more)) (sym full) in
    (more, omega (arith, more_len, less), (record { connection = connection; sequence = sequence; count = count; payload = rest ++ more }, (fit_with connection sequence count len (rest ++ more) fits full, whole)))

too_long : (t rest : List ℕ) (connection sequence count len : ℕ) → Fits connection sequence count len → 2 ≤ len → t ≡ fixed_text connection sequence count len ++ rest → len - 2 < length rest → Exceeds IsDatagramText t
too_long t rest connection sequence count len fits some parts more =
    let front = take (len - 2) rest in
    let extra = drop (len - 2) rest in
    let full : length front + 2 ≡ len = omega (arith, length-take (len - 2) rest, more, some) in
    let whole = parts ∙ ap (λ (x : List ℕ). fixed_text connection sequence count len ++ x) (sym (take-append-drop (len - 2) rest)) ∙ sym (append_assoc (fixed_text connection sequence count len) front extra) in (
      fixed_text connection sequence count len ++ front,
      extra,
      omega (arith, length-drop (len - 2) rest, more),
      whole,
      (record { connection = connection; sequence = sequence; count = count; payload = front }, (fit_with connection sequence count len front fits full, ap (λ (n : ℕ). fixed_text connection sequence count n ++ front) (sym full))),
    )

just_long : (t rest : List ℕ) (connection sequence count len : ℕ) → Fits connection sequence count len → length rest + 2 ≡ len → t ≡ fixed_text connection sequence count len ++ rest → IsDatagramText t (record { connection = connection; sequence = sequence; count = count; payload = rest })
just_long t rest connection sequence count len fits full parts =
    (fit_with connection sequence count len rest fits full, parts ∙ ap (λ (n : ℕ). fixed_text connection sequence count n ++ rest) (sym full))

sized_is : (t rest : List ℕ) (connection sequence count len : ℕ) → Fits connection sequence count len → 2 ≤ len → t ≡ fixed_text connection sequence count len ++ rest → IsDatagramReading t (sized_reading (len - 2) (record { connection = connection; sequence = sequence; count = count; payload = rest }))
sized_is t rest connection sequence count len fits some parts =
    elim (cases_Bool (ltb (length rest) (len - 2))) [
      | inl less ↦ rw less (inr (too_short t rest connection sequence count len fits some parts (ltb-true _ _ less)))
      | inr enough ↦ elim (cases_Bool (ltb (len - 2) (length rest))) [
        | inl more ↦ rw (enough, more) (too_long t rest connection sequence count len fits some parts (ltb-true _ _ more))
        | inr just ↦
            let low = ltb-false _ _ enough in
            let high = ltb-false _ _ just in
            rw (enough, just) (just_long t rest connection sequence count len fits (omega (arith, low, high, some)) parts)
      ]
    ]

-- the eight numbers as they are
items_reading : (t rest : List ℕ) (items address address_len connection sequence connected len count : ℕ) → (ns : List ℕ) → ns ≡ items ∷ address ∷ address_len ∷ connection ∷ sequence ∷ connected ∷ len ∷ count ∷ [] → AreFields datagram_widths ns → t ≡ fields_text datagram_widths ns ++ rest → IsDatagramReading t (parts_reading (items ∷ address ∷ address_len ∷ connection ∷ sequence ∷ connected ∷ len ∷ count ∷ []) rest)
items_reading t rest items address address_len connection sequence connected len count ns same are parts =
    elim (cases_Bool (are_items items address address_len connected len)) [
      | inl right ↦
          let p = and_parts _ _ right in
          let q = and_parts _ _ p.0 in
          let r = and_parts _ _ q.0 in
          let s = and_parts _ _ r.0 in
          let items_is : items ≡ 2 = eqb-true items 2 s.0 in
          let address_is : address ≡ 0x8002 = eqb-true address 0x8002 s.1 in
          let address_len_is : address_len ≡ 8 = eqb-true address_len 8 r.1 in
          let connected_is : connected ≡ 0xB1 = eqb-true connected 0xB1 q.1 in
          let numbers : ns ≡ 2 ∷ 0x8002 ∷ 8 ∷ connection ∷ sequence ∷ 0xB1 ∷ len ∷ count ∷ [] = cc in
          let own = subst (AreFields datagram_widths) numbers are in
          let fits : Fits connection sequence count len = record { connection_fits = own.1.1.1.0; sequence_fits = own.1.1.1.1.0; count_fits = own.1.1.1.1.1.1.1.0; len_fits = own.1.1.1.1.1.1.0 } in
          rw right (sized_is t rest connection sequence count len fits (leb-true 2 len p.1) (parts ∙ ap (λ (x : List ℕ). fields_text datagram_widths x ++ rest) numbers))
      | inr wrong ↦
          let long : 20 ≤ length t = omega (arith, ap length parts, length-append (fields_text datagram_widths ns) rest, length-fixed ns are) in
          rw wrong (long, begins_none t ns rest are parts (ap items_of same ∙ wrong))
    ]

parts_is : (t ns rest : List ℕ) → AreFields datagram_widths ns → t ≡ fields_text datagram_widths ns ++ rest → IsDatagramReading t (parts_reading ns rest)
parts_is t ns rest are parts =
    let same = fields_tabulated datagram_widths 8 ns refl are in
    subst (λ (x : List ℕ). IsDatagramReading t (parts_reading x rest)) same
    (items_reading t rest (get_or ns 0 0) (get_or ns 1 0) (get_or ns 2 0) (get_or ns 3 0) (get_or ns 4 0) (get_or ns 5 0) (get_or ns 6 0) (get_or ns 7 0) ns (sym same) are parts)

no_fixed : (t : List ℕ) → IsBytes t → fields_at datagram_widths t ≡ None → length t < 20
no_fixed t fits e =
    let c = fields_lack datagram_widths wide t fits e in
    omega (arith, c.some, ap length c.whole, length-append t c.more, length-fixed c.ns c.are)

found_is : (t : List ℕ) (found : Option Tailed) → IsBytes t → fields_at datagram_widths t ≡ found → IsDatagramReading t (found_reading found)
found_is t None fits e = inl (no_fixed t fits e)
found_is t (Some p) fits e =
    let taken = fields_taken datagram_widths wide t p.0 p.1 fits e in
    parts_is t p.0 p.1 taken.1 taken.0.parts

-- the reading of bytes is one
pub datagram_reading_is : (t : List ℕ) → IsBytes t → IsDatagramReading t (datagram_reading t)
unfolding datagram_reading
datagram_reading_is t fits = found_is t (fields_at datagram_widths t) fits refl

-- ---- and there is no other

begun : {X : Type 0} (t text more : List ℕ) (d : DatagramFields) → BeginsNone (take 20 t) → IsDatagramText text d → text ≡ t ++ more → X
begun t text more d none is same =
    let whole = same ∙ ap (λ (x : List ℕ). x ++ more) (sym (take-append-drop 20 t)) ∙ append_assoc (take 20 t) (drop 20 t) more in
    absurd (none text (drop 20 t ++ more) d is whole)

text_truncated : {X : Type 0} (t : List ℕ) (d : DatagramFields) → IsDatagramText t d → IsTruncated t → X
text_truncated t d is (inl short) = absurd (omega (arith, short, length-text t d is))
text_truncated t d is (inr lacks) = whole_lacks IsDatagramText datagram_free t d is lacks

text_other : {X : Type 0} (t : List ℕ) (d : DatagramFields) → IsDatagramText t d → HasOtherItems t → X
text_other t d is other = begun t t [] d other.1 is (sym (append-nil t))

truncated_other : {X : Type 0} (t : List ℕ) → IsTruncated t → HasOtherItems t → X
truncated_other t (inl short) other = absurd (omega (arith, short, other.0))
truncated_other t (inr lacks) other = begun t (t ++ lacks.0) lacks.0 lacks.2.0 other.1 lacks.2.1 refl

truncated_exceeds : {X : Type 0} (t : List ℕ) → IsTruncated t → Exceeds IsDatagramText t → X
truncated_exceeds t (inl short) x = absurd (omega (arith, short, ap length x.3, length-append x.0 x.1, length-text x.0 x.4.0 x.4.1))
truncated_exceeds t (inr lacks) x = lacks_exceeds IsDatagramText datagram_free t lacks x

other_exceeds : {X : Type 0} (t : List ℕ) → HasOtherItems t → Exceeds IsDatagramText t → X
other_exceeds t other x =
    let long = length-text x.0 x.4.0 x.4.1 in
    let front : take 20 t ≡ take 20 x.0 = ap (take 20) x.3 ∙ take-append-le 20 x.0 x.1 long in
    let whole = sym (take-append-drop 20 x.0) ∙ ap (λ (y : List ℕ). y ++ drop 20 x.0) (sym front) in
    absurd (other.1 x.0 (drop 20 x.0) x.4.0 x.4.1 whole)

one_reading : (t : List ℕ) (r r' : Result DatagramFields DatagramFault) → IsDatagramReading t r → IsDatagramReading t r' → r ≡ r'
one_reading t (Ok d) (Ok e) is is' = ap Ok (datagram_free.apart t t [] [] d e is is' refl).1
one_reading t (Ok d) (Err fault.Truncated) is is' = text_truncated t d is is'
one_reading t (Ok d) (Err fault.Items) is is' = text_other t d is is'
one_reading t (Ok d) (Err fault.Trailing) is is' = whole_exceeds IsDatagramText datagram_free t d is is'
one_reading t (Err fault.Truncated) (Ok d) is is' = text_truncated t d is' is
one_reading t (Err fault.Items) (Ok d) is is' = text_other t d is' is
one_reading t (Err fault.Trailing) (Ok d) is is' = whole_exceeds IsDatagramText datagram_free t d is' is
one_reading t (Err fault.Truncated) (Err fault.Truncated) is is' = refl
one_reading t (Err fault.Items) (Err fault.Items) is is' = refl
one_reading t (Err fault.Trailing) (Err fault.Trailing) is is' = refl
one_reading t (Err fault.Truncated) (Err fault.Items) is is' = truncated_other t is is'
one_reading t (Err fault.Items) (Err fault.Truncated) is is' = truncated_other t is' is
one_reading t (Err fault.Truncated) (Err fault.Trailing) is is' = truncated_exceeds t is is'
one_reading t (Err fault.Trailing) (Err fault.Truncated) is is' = truncated_exceeds t is' is
one_reading t (Err fault.Items) (Err fault.Trailing) is is' = other_exceeds t is is'
one_reading t (Err fault.Trailing) (Err fault.Items) is is' = other_exceeds t is' is

-- whatever the bytes may be read as, the function gives
pub one_datagram_reading : (t : List ℕ) → IsBytes t → (r : Result DatagramFields DatagramFault) → IsDatagramReading t r → datagram_reading t ≡ r
one_datagram_reading t fits r is = one_reading t (datagram_reading t) r (datagram_reading_is t fits) is

-- ---- what is written is read as it was

sized_again : (d : DatagramFields) → sized_reading (length d.payload + 2 - 2) d ≡ Ok d
sized_again d =
    let low : ltb (length d.payload) (length d.payload + 2 - 2) ≡ false = le-ltb _ _ (omega arith) in
    let high : ltb (length d.payload + 2 - 2) (length d.payload) ≡ false = le-ltb _ _ (omega arith) in
    rw (low, high) refl

parts_again : (d : DatagramFields) → parts_reading (datagram_numbers d) d.payload ≡ Ok d
parts_again d =
    let items : are_items 2 0x8002 8 0xB1 (length d.payload + 2) ≡ true = own_items d in
    rw items (sized_again d)

-- a text of a datagram is read as that datagram
pub datagram_reads : (t : List ℕ) (d : DatagramFields) → IsDatagramText t d → datagram_reading t ≡ Ok d
unfolding datagram_reading
datagram_reads t d is =
    let read = ap (fields_at datagram_widths) (sym (append-nil t)) ∙ text_parts t [] d is ∙ ap (λ (x : List ℕ). Some (datagram_numbers d, x)) (append-nil d.payload) in
    ap found_reading read ∙ parts_again d

-- the text that is written is read as the datagram that it was written for
pub datagram_text_reads : (d : DatagramFields) → DatagramFits d → datagram_reading (datagram_text d) ≡ Ok d
datagram_text_reads d fits = datagram_reads (datagram_text d) d (fits, refl)
