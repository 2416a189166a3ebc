-- What crates above rest on: the reading of bytes as a function is the one that the relation allows, no
-- message begins another, and what is written is read as it was.
use Rattle.std.proofs.Common.{◌≡◌, ℕ, ◌+◌, ◌-◌, ◌<◌, false, ltb, List, [], ◌∷◌, ◌++◌, length, get_or, take, drop, replicate, Some, None, Option, Result, Ok, Err, refl, sym, ap, subst, ◌∙◌, append_assoc, arith, inl, inr}
use Rattle.std.specs.Int.{w64}
use Rattle.std.specs.List.{AllByRecursion}
use Rattle.std.proofs.lemmas.Bool.{cases_Bool, ltb-true, ltb-false, le-ltb}
use Rattle.std.proofs.lemmas.List.{take-append-drop, length-append, length-take, length-drop, append-nil, length-replicate}
use Rattle.std.proofs.lemmas.Nat.{le_bytes_8, from_le_bytes-to_le_bytes_8}
use Rattle.std.specs.Option.{option_map}
use Rattle.cip_types.specs.Fields.{Finds, fields_text, AreFields, fields_at}
use Rattle.cip_types.specs.Texts.{Lacks, Exceeds, IsPrefixFree, Tailed, IsTailedText}
use Rattle.cip_types.specs.FieldLaws.{IsBytes, IsWide, wide16, wide32, fields_taken, fields_again, fields_lack, fields_tabulated}
use Rattle.cip_types.specs.TextLaws.{tailed_free, whole_lacks, whole_exceeds, lacks_exceeds}
use Rattle.cip_encap.specs.declared.message.EncapFault.{EncapFault}
use Rattle.cip_encap.specs.declared.message.EncapFault.TheVariants as fault
use Rattle.cip_encap.specs.Message.{MessageFields, header_widths, header_numbers, message_text, MessageFits, IsMessageText, IsMessageReading, IsHeaderReading}
use Rattle.cip_encap.specs.Reading.{sized_reading, parts_reading, found_reading, message_reading}

wide64 : IsWide w64
wide64 = record {
  some = omega arith;
  len = λ n. refl;
  back = λ bs len fits. le_bytes_8 bs _ len fits refl;
  again = λ n lt. from_le_bytes-to_le_bytes_8 n lt;
  below = λ bs fits. omega (arith, fits 0, fits 1, fits 2, fits 3, fits 4, fits 5, fits 6, fits 7);
}

pub wide : AllByRecursion IsWide header_widths
wide = (wide16, (wide16, (wide32, (wide32, (wide64, (wide32, tt))))))

-- the header is of 24 bytes
pub length-header : (ns : List ℕ) → AreFields header_widths ns → length (fields_text header_widths ns) ≡ 24
length-header ns are = subst (λ (x : List ℕ). length (fields_text header_widths x) ≡ 24) (fields_tabulated header_widths 6 ns refl are) refl

-- ---- headers

-- what a function found is what the reading gives
pub finds_is : {X Y : Type 0} (view : X → Y) (result : Option X) (reading : Option Y) → Finds view result reading → reading ≡ option_map view result
finds_is view None reading is = is
finds_is view (Some x) reading is = is

header_found : (t : List ℕ) (found : Option Tailed) → IsBytes t → fields_at header_widths t ≡ found → IsHeaderReading t found
header_found t None fits e =
    let c = fields_lack header_widths wide t fits e in
    omega (arith, ap length c.whole, length-append t c.more, length-header c.ns c.are, c.some)
header_found t (Some x) fits e =
    let taken = fields_taken header_widths wide t x.0 x.1 fits e in
    (taken.1, taken.0.parts)

-- the reading of the front is one
pub header_reading_is : (t : List ℕ) → IsBytes t → IsHeaderReading t (fields_at header_widths t)
header_reading_is t fits = header_found t (fields_at header_widths t) fits refl

-- too few bytes begin with none
no_header_in : (t : List ℕ) (found : Option Tailed) → length t < 24 → IsHeaderReading t found → found ≡ None
no_header_in t None short is = refl
no_header_in t (Some x) short is = absurd (omega (arith, ap length is.1, length-append (fields_text header_widths x.0) x.1, length-header x.0 is.0, short))

-- and there is no other
pub one_header_reading : (t : List ℕ) → IsBytes t → (other : Option Tailed) → IsHeaderReading t other → fields_at header_widths t ≡ other
one_header_reading t fits None short = no_header_in t (fields_at header_widths t) short (header_reading_is t fits)
one_header_reading t fits (Some x) is = ap (fields_at header_widths) is.1 ∙ fields_again header_widths wide x.0 x.1 is.0

-- ---- a message's numbers are within their fields

numbers_fit : (m : MessageFields) → MessageFits m → AreFields header_widths (header_numbers m)
numbers_fit m fits = (fits.command, (fits.payload, (fits.session, (fits.status, (fits.context, (fits.options, tt))))))

text_parts : (t u : List ℕ) (m : MessageFields) → IsMessageText t m → fields_at header_widths (t ++ u) ≡ Some (header_numbers m, m.payload ++ u)
text_parts t u m is =
    ap (λ (x : List ℕ). fields_at header_widths (x ++ u)) is.1 ∙ ap (fields_at header_widths) (append_assoc (fields_text header_widths (header_numbers m)) m.payload u) ∙ fields_again header_widths wide (header_numbers m) (m.payload ++ u) (numbers_fit m is.0)

-- a text is the header and the data
pub length-text : (t : List ℕ) (m : MessageFields) → IsMessageText t m → length t ≡ 24 + length m.payload
length-text t m is =
    let e = ap length is.1 in
    omega (arith, e, length-append (fields_text header_widths (header_numbers m)) m.payload, length-header (header_numbers m) (numbers_fit m is.0))

-- ---- no text begins another

-- how many bytes stand behind the header
abbrev payload_len : List ℕ → ℕ
payload_len ns = get_or ns 1 0

-- the message of the numbers and the data
abbrev message_of : Tailed → MessageFields
message_of p = record { command = get_or p.0 0 0; session = get_or p.0 2 0; status = get_or p.0 3 0; context = get_or p.0 4 0; options = get_or p.0 5 0; payload = p.1 }

is_tailed : (t : List ℕ) (m : MessageFields) → IsMessageText t m → IsTailedText header_widths payload_len t (header_numbers m, m.payload)
is_tailed t m is = (numbers_fit m is.0, refl, is.1)

-- no whole message is a proper prefix of another
pub message_free : IsPrefixFree IsMessageText
message_free = record {
  apart = λ t t' u u' m m' is is' e.
      let same = (tailed_free header_widths wide payload_len).apart t t' u u' (header_numbers m, m.payload) (header_numbers m', m'.payload) (is_tailed t m is) (is_tailed t' m' is') e in
      (same.0, ap message_of same.1);
}

-- ---- the reading is one

-- the numbers of a header and data of their length make a text
is_message : (t tail : List ℕ) (command len session status context options : ℕ) → AreFields header_widths (command ∷ len ∷ session ∷ status ∷ context ∷ options ∷ []) → length tail ≡ len → t ≡ fields_text header_widths (command ∷ len ∷ session ∷ status ∷ context ∷ options ∷ []) ++ tail → IsMessageText t (record { command = command; session = session; status = status; context = context; options = options; payload = tail })
is_message t tail command len session status context options are same parts =
    let small : length tail < 65536 = omega (arith, same, are.1.0) in (
      record { command = are.0; session = are.1.1.0; status = are.1.1.1.0; context = are.1.1.1.1.0; options = are.1.1.1.1.1.0; payload = small },
      parts ∙ ap (λ (n : ℕ). fields_text header_widths (command ∷ n ∷ session ∷ status ∷ context ∷ options ∷ []) ++ tail) (sym same),
    )

too_short : (t rest : List ℕ) (command len session status context options : ℕ) → AreFields header_widths (command ∷ len ∷ session ∷ status ∷ context ∷ options ∷ []) → t ≡ fields_text header_widths (command ∷ len ∷ session ∷ status ∷ context ∷ options ∷ []) ++ rest → length rest < len → Lacks IsMessageText t
too_short t rest command len session status context options are parts less =
    let more = replicate (len - length rest) 0 in
    let more_len : length more ≡ len - length rest = length-replicate (len - length rest) 0 in
    let full : length (rest ++ more) ≡ len = omega (arith, length-append rest more, more_len, less) in
    let whole = ap (λ (x : List ℕ). x ++ more) parts ∙ append_assoc (fields_text header_widths (command ∷ len ∷ session ∷ status ∷ context ∷ options ∷ [])) rest more in
    (more, omega (arith, more_len, less), (record { command = command; session = session; status = status; context = context; options = options; payload = rest ++ more }, is_message (t ++ more) (rest ++ more) command len session status context options are full whole))

too_long : (t rest : List ℕ) (command len session status context options : ℕ) → AreFields header_widths (command ∷ len ∷ session ∷ status ∷ context ∷ options ∷ []) → t ≡ fields_text header_widths (command ∷ len ∷ session ∷ status ∷ context ∷ options ∷ []) ++ rest → len < length rest → Exceeds IsMessageText t
too_long t rest command len session status context options are parts more =
    let head = fields_text header_widths (command ∷ len ∷ session ∷ status ∷ context ∷ options ∷ []) in
    let front = take len rest in
    let full : length front ≡ len = omega (arith, length-take len rest, more) in
    let whole = parts ∙ ap (λ (x : List ℕ). head ++ x) (sym (take-append-drop len rest)) ∙ sym (append_assoc head front (drop len rest)) in
    (head ++ front, drop len rest, omega (arith, length-drop len rest, more), whole, (record { command = command; session = session; status = status; context = context; options = options; payload = front }, is_message (head ++ front) front command len session status context options are full refl))

sized_is : (t rest : List ℕ) (command len session status context options : ℕ) → AreFields header_widths (command ∷ len ∷ session ∷ status ∷ context ∷ options ∷ []) → t ≡ fields_text header_widths (command ∷ len ∷ session ∷ status ∷ context ∷ options ∷ []) ++ rest → IsMessageReading t (sized_reading len (record { command = command; session = session; status = status; context = context; options = options; payload = rest }))
sized_is t rest command len session status context options are parts =
    elim (cases_Bool (ltb (length rest) len)) [
      | inl less ↦ rw less (too_short t rest command len session status context options are parts (ltb-true _ _ less))
      | inr enough ↦ elim (cases_Bool (ltb len (length rest))) [
        | inl more ↦ rw (enough, more) (too_long t rest command len session status context options are parts (ltb-true _ _ more))
        | inr just ↦
            let low = ltb-false _ _ enough in
            let high = ltb-false _ _ just in
            rw (enough, just) (is_message t rest command len session status context options are (omega (arith, low, high)) parts)
      ]
    ]

parts_is : (t ns rest : List ℕ) → AreFields header_widths ns → t ≡ fields_text header_widths ns ++ rest → IsMessageReading t (parts_reading ns rest)
parts_is t ns rest are parts =
    let same = fields_tabulated header_widths 6 ns refl are in
    let back = sym same in
    subst (λ (x : List ℕ). IsMessageReading t (parts_reading x rest)) same
    (sized_is t rest (get_or ns 0 0) (get_or ns 1 0) (get_or ns 2 0) (get_or ns 3 0) (get_or ns 4 0) (get_or ns 5 0) (subst (AreFields header_widths) back are) (parts ∙ ap (λ (x : List ℕ). fields_text header_widths x ++ rest) back))

no_header : (t ns more : List ℕ) → AreFields header_widths ns → 0 < length more → t ++ more ≡ fields_text header_widths ns → Lacks IsMessageText t
no_header t ns more are some whole =
    let tail = replicate (payload_len ns) 0 in
    let back = sym (fields_tabulated header_widths 6 ns refl are) in
    let parts = sym (append_assoc t more tail) ∙ ap (λ (x : List ℕ). x ++ tail) whole ∙ ap (λ (x : List ℕ). fields_text header_widths x ++ tail) back in
    (more ++ tail, omega (arith, length-append more tail, some), (message_of (ns, tail), is_message (t ++ (more ++ tail)) tail (get_or ns 0 0) (get_or ns 1 0) (get_or ns 2 0) (get_or ns 3 0) (get_or ns 4 0) (get_or ns 5 0) (subst (AreFields header_widths) back are) (length-replicate (payload_len ns) 0) parts))

found_is : (t : List ℕ) (found : Option Tailed) → IsBytes t → fields_at header_widths t ≡ found → IsMessageReading t (found_reading found)
found_is t None fits e =
    let c = fields_lack header_widths wide t fits e in
    no_header t c.ns c.more c.are c.some c.whole
found_is t (Some p) fits e =
    let taken = fields_taken header_widths wide t p.0 p.1 fits e in
    parts_is t p.0 p.1 taken.1 taken.0.parts

-- the reading of bytes is one
pub message_reading_is : (t : List ℕ) → IsBytes t → IsMessageReading t (message_reading t)
unfolding message_reading
message_reading_is t fits = found_is t (fields_at header_widths t) fits refl

-- ---- and there is no other

one_reading : (t : List ℕ) (r r' : Result MessageFields EncapFault) → IsMessageReading t r → IsMessageReading t r' → r ≡ r'
one_reading t (Ok m) (Ok n) is is' = ap Ok (message_free.apart t t [] [] m n is is' refl).1
one_reading t (Ok m) (Err fault.Truncated) is is' = whole_lacks IsMessageText message_free t m is is'
one_reading t (Ok m) (Err fault.Trailing) is is' = whole_exceeds IsMessageText message_free t m is is'
one_reading t (Err fault.Truncated) (Ok m) is is' = whole_lacks IsMessageText message_free t m is' is
one_reading t (Err fault.Trailing) (Ok m) is is' = whole_exceeds IsMessageText message_free t m is' is
one_reading t (Err fault.Truncated) (Err fault.Truncated) is is' = refl
one_reading t (Err fault.Trailing) (Err fault.Trailing) is is' = refl
one_reading t (Err fault.Truncated) (Err fault.Trailing) is is' = lacks_exceeds IsMessageText message_free t is is'
one_reading t (Err fault.Trailing) (Err fault.Truncated) is is' = lacks_exceeds IsMessageText message_free t is' is

-- whatever the bytes may be read as, the function gives
pub one_message_reading : (t : List ℕ) → IsBytes t → (r : Result MessageFields EncapFault) → IsMessageReading t r → message_reading t ≡ r
one_message_reading t fits r is = one_reading t (message_reading t) r (message_reading_is t fits) is

-- ---- what is written is read as it was

sized_again : (m : MessageFields) → sized_reading (length m.payload) m ≡ Ok m
sized_again m =
    let low : ltb (length m.payload) (length m.payload) ≡ false = le-ltb _ _ (omega arith) in
    rw low refl

-- a text of a message is read as that message
pub message_reads : (t : List ℕ) (m : MessageFields) → IsMessageText t m → message_reading t ≡ Ok m
unfolding message_reading
message_reads t m is =
    let read = ap (fields_at header_widths) (sym (append-nil t)) ∙ text_parts t [] m is ∙ ap (λ (x : List ℕ). Some (header_numbers m, x)) (append-nil m.payload) in
    ap found_reading read ∙ sized_again m

-- the text that is written is read as the message that it was written for
pub message_text_reads : (m : MessageFields) → MessageFits m → message_reading (message_text m) ≡ Ok m
message_text_reads m fits = message_reads (message_text m) m (fits, refl)
