-- The data of a Forward_Close is read one way, and what is written is read again.
use Rattle.std.proofs.Common.{◌≡◌, ℕ, ◌+◌, ◌/◌, ◌%◌, ◌<◌, List, ◌∷◌, ◌++◌, length, Some, None, Result, Ok, Err, refl, arith}
use Rattle.std.specs.List.{AllByRecursion}
use Rattle.cip_types.specs.Fields.{fields_text, fields_at}
use Rattle.cip_types.specs.Texts.{IsPrefixFree, found_image, IsTailedText, tailed_found}
use Rattle.cip_types.specs.FieldLaws.{IsBytes, IsWide, wide8, wide16, wide32, fields_again}
use Rattle.cip_types.specs.TextLaws.{image_free, image_found, tailed_free, tailed_is_found}
use Rattle.cip_fwdopen.specs.declared.fault.ReadFault.{ReadFault}
use Rattle.cip_fwdopen.specs.declared.fault.ReadFault.TheVariants.{NotEnough, TooMuch}
use Rattle.cip_fwdopen.specs.Reply.{triad_widths, triad_numbers}
use Rattle.cip_fwdopen.specs.Close.{CloseFields, CloseFits, close_widths, close_path_len, close_of, IsCloseText, IsCloseReading, close_reading, close_numbers, close_text}
use Rattle.cip_fwdopen.proofs.ReadingLaws.{found_is_reading, one_reading}
use Rattle.cip_fwdopen.proofs.AmongLaws.{ends_none, ends_short, ends_long, ends_whole}

wide : AllByRecursion IsWide close_widths
wide = (wide8, (wide8, (wide16, (wide16, (wide32, (wide8, (wide8, tt)))))))

-- ---- one reading

close_free : IsPrefixFree IsCloseText
close_free = image_free close_of (IsTailedText close_widths close_path_len) (tailed_free close_widths wide close_path_len)

pub close_is_reading : (bytes : List ℕ) → IsBytes bytes → IsCloseReading bytes (close_reading bytes)
unfolding close_reading
close_is_reading bytes fits =
    let found = tailed_found close_widths close_path_len bytes in
    found_is_reading IsCloseText bytes (found_image close_of found)
    (image_found close_of (IsTailedText close_widths close_path_len) bytes found (tailed_is_found close_widths wide close_path_len bytes fits))

pub one_close : (bytes : List ℕ) (r r' : Result CloseFields ReadFault) → IsCloseReading bytes r → IsCloseReading bytes r' → r ≡ r'
one_close bytes r r' is is' = one_reading IsCloseText close_free bytes r r' is is'

-- ---- the four ends of a reading

pub lacks_fixed : (bytes : List ℕ) → fields_at close_widths bytes ≡ None → close_reading bytes ≡ Err NotEnough
unfolding close_reading
lacks_fixed bytes e = ends_none CloseFields close_widths close_path_len close_of bytes e

pub lacks_path : (bytes ns rest : List ℕ) → fields_at close_widths bytes ≡ Some (ns, rest) → length rest < close_path_len ns → close_reading bytes ≡ Err NotEnough
unfolding close_reading
lacks_path bytes ns rest e less = ends_short CloseFields close_widths close_path_len close_of bytes ns rest e less

pub exceeds_path : (bytes ns rest : List ℕ) → fields_at close_widths bytes ≡ Some (ns, rest) → close_path_len ns < length rest → close_reading bytes ≡ Err TooMuch
unfolding close_reading
exceeds_path bytes ns rest e more = ends_long CloseFields close_widths close_path_len close_of bytes ns rest e more

pub ends_path : (bytes ns rest : List ℕ) → fields_at close_widths bytes ≡ Some (ns, rest) → length rest ≡ close_path_len ns → close_reading bytes ≡ Ok (close_of (ns, rest))
unfolding close_reading
ends_path bytes ns rest e just = ends_whole CloseFields close_widths close_path_len close_of bytes ns rest e just

-- ---- what is written

-- the text of a request, its fields one after the other
pub close_text_parts : (p : CloseFields) → p.priority_tick < 256 → p.ticks < 256 → length p.path / 2 < 256 → close_text p ≡ p.priority_tick ∷ p.ticks ∷ (fields_text triad_widths (triad_numbers p.triad) ++ (length p.path / 2 ∷ 0 ∷ p.path))
unfolding close_text
close_text_parts p tick_fits ticks_fit words_fit =
    let tick : p.priority_tick % 256 ≡ p.priority_tick = omega arith in
    let ticks : p.ticks % 256 ≡ p.ticks = omega arith in
    let words : length p.path / 2 % 256 ≡ length p.path / 2 = omega arith in
    rw (tick, ticks, words) refl

-- what is written of a request is a text of it
pub close_text_is : (p : CloseFields) → CloseFits p → IsCloseText (close_text p) p
unfolding close_text
close_text_is p fits = ((close_numbers p, p.path), (fits.numbers, fits.words, refl), refl)

-- what is written of a request reads as it
pub close_text_reads : (p : CloseFields) → CloseFits p → close_reading (close_text p) ≡ Ok p
unfolding close_text
close_text_reads p fits =
    ends_path (fields_text close_widths (close_numbers p) ++ p.path) (close_numbers p) p.path (fields_again close_widths wide (close_numbers p) p.path fits.numbers) fits.words

-- the bytes of what is written
pub close_text_len : (p : CloseFields) → length (close_text p) ≡ 12 + length p.path
unfolding close_text
close_text_len p = omega arith
