-- The data of a Forward_Open is read one way, and what is written is read again.
use Rattle.std.proofs.Common.{◌≡◌, if◌then◌else◌, ℕ, ◌+◌, ◌/◌, ◌%◌, ◌<◌, Bool, true, false, List, ◌∷◌, ◌++◌, length, Some, None, Result, Ok, Err, refl, ap, ◌∙◌, arith}
use Rattle.std.specs.Int.{w32, to_le_bytes}
use Rattle.std.specs.List.{AllByRecursion}
use Rattle.cip_types.specs.Fields.{fields_text, fields_at}
use Rattle.cip_types.specs.Texts.{IsPrefixFree, Found, found_image, Tailed, IsTailedText, tailed_found}
use Rattle.cip_types.specs.FieldLaws.{IsBytes, IsWide, wide8, wide16, wide32, fields_again}
use Rattle.cip_types.specs.TextLaws.{image_free, image_found, tailed_free, tailed_is_found}
use Rattle.cip_fwdopen.specs.declared.fault.ReadFault.{ReadFault}
use Rattle.cip_fwdopen.specs.declared.fault.ReadFault.TheVariants.{NotEnough, TooMuch}
use Rattle.cip_netparams.specs.declared.NetParams.{NetParams}
use Rattle.cip_fwdopen.specs.Readings.{answer_of}
use Rattle.cip_fwdopen.specs.Reply.{triad_widths, triad_numbers}
use Rattle.cip_fwdopen.specs.Open.{OpenFields, OpenFits, open_widths, path_len, open_of, IsOpenText, IsOpenReading, open_reading, params_of, params_width, params_word, open_numbers, open_text}
use Rattle.cip_fwdopen.proofs.ReadingLaws.{tailed_none, tailed_short, tailed_long, tailed_whole, found_is_reading, one_reading}
use Rattle.cip_fwdopen.proofs.ParamsLaws.{wide_params, params_back}

wide : (large : Bool) → AllByRecursion IsWide (open_widths large)
wide large = (wide8, (wide8, (wide32, (wide32, (wide16, (wide16, (wide32, (wide8, (wide8, (wide8, (wide8, (wide32, (wide_params large, (wide32, (wide_params large, (wide8, (wide8, tt)))))))))))))))))

-- ---- one reading

open_free : (large : Bool) → IsPrefixFree (IsOpenText large)
open_free large = image_free (open_of large) (IsTailedText (open_widths large) path_len) (tailed_free (open_widths large) (wide large) path_len)

pub open_is_reading : (large : Bool) (bytes : List ℕ) → IsBytes bytes → IsOpenReading large bytes (open_reading large bytes)
unfolding open_reading
open_is_reading large bytes fits =
    let found = tailed_found (open_widths large) path_len bytes in
    found_is_reading (IsOpenText large) bytes (found_image (open_of large) found)
    (image_found (open_of large) (IsTailedText (open_widths large) path_len) bytes found (tailed_is_found (open_widths large) (wide large) path_len bytes fits))

pub one_open : (large : Bool) (bytes : List ℕ) (r r' : Result OpenFields ReadFault) → IsOpenReading large bytes r → IsOpenReading large bytes r' → r ≡ r'
one_open large bytes r r' is is' = one_reading (IsOpenText large) (open_free large) bytes r r' is is'

-- ---- the four ends of a reading

found_reads : (large : Bool) (bytes : List ℕ) (found : Found Tailed) → tailed_found (open_widths large) path_len bytes ≡ found → open_reading large bytes ≡ answer_of (found_image (open_of large) found)
unfolding open_reading
found_reads large bytes found e = ap (λ (x : Found Tailed). answer_of (found_image (open_of large) x)) e

pub lacks_fixed : (large : Bool) (bytes : List ℕ) → fields_at (open_widths large) bytes ≡ None → open_reading large bytes ≡ Err NotEnough
lacks_fixed large bytes e = found_reads large bytes _ (tailed_none (open_widths large) path_len bytes e)

pub lacks_path : (large : Bool) (bytes ns rest : List ℕ) → fields_at (open_widths large) bytes ≡ Some (ns, rest) → length rest < path_len ns → open_reading large bytes ≡ Err NotEnough
lacks_path large bytes ns rest e less = found_reads large bytes _ (tailed_short (open_widths large) path_len bytes (ns, rest) e less)

pub exceeds_path : (large : Bool) (bytes ns rest : List ℕ) → fields_at (open_widths large) bytes ≡ Some (ns, rest) → path_len ns < length rest → open_reading large bytes ≡ Err TooMuch
exceeds_path large bytes ns rest e more = found_reads large bytes _ (tailed_long (open_widths large) path_len bytes (ns, rest) e more)

pub ends_path : (large : Bool) (bytes ns rest : List ℕ) → fields_at (open_widths large) bytes ≡ Some (ns, rest) → length rest ≡ path_len ns → open_reading large bytes ≡ Ok (open_of large (ns, rest))
ends_path large bytes ns rest e just = found_reads large bytes _ (tailed_whole (open_widths large) path_len bytes (ns, rest) e just)

-- ---- what is written

-- the numbers that are written say the request
same_open : (large : Bool) (p : OpenFields) → OpenFits large p → open_of large (open_numbers large p, p.path) ≡ p
same_open large p fits =
    let o_t : params_of large (params_word large p.o_t_params) ≡ p.o_t_params = params_back large p.o_t_params fits.o_t_size in
    let t_o : params_of large (params_word large p.t_o_params) ≡ p.t_o_params = params_back large p.t_o_params fits.t_o_size in
    rw (o_t, t_o) refl

-- an interval and a word of connection parameters
abbrev pub direction_text : Bool → ℕ → NetParams → List ℕ
direction_text large rpi params = to_le_bytes w32 rpi ++ to_le_bytes (params_width large) (params_word large params)

-- the text of a request, its parts one after the other
pub open_text_parts : (large : Bool) (p : OpenFields) → p.priority_tick < 256 → p.ticks < 256 → p.multiplier < 256 → p.trigger < 256 → length p.path / 2 < 256
    → open_text large p
    ≡ p.priority_tick ∷ p.ticks ∷ (to_le_bytes w32 p.o_t_id.0 ++ (to_le_bytes w32 p.t_o_id.0 ++ (fields_text triad_widths (triad_numbers p.triad) ++ (p.multiplier ∷ 0 ∷ 0 ∷ 0 ∷
    (direction_text large p.o_t_rpi p.o_t_params ++ (direction_text large p.t_o_rpi p.t_o_params ++ (p.trigger ∷ length p.path / 2 ∷ p.path)))))))
unfolding open_text
open_text_parts true p tick_fits ticks_fit multiplier_fits trigger_fits words_fit =
    let tick : p.priority_tick % 256 ≡ p.priority_tick = omega arith in
    let ticks : p.ticks % 256 ≡ p.ticks = omega arith in
    let multiplier : p.multiplier % 256 ≡ p.multiplier = omega arith in
    let trigger : p.trigger % 256 ≡ p.trigger = omega arith in
    let words : length p.path / 2 % 256 ≡ length p.path / 2 = omega arith in
    rw (tick, ticks, multiplier, trigger, words) refl
open_text_parts false p tick_fits ticks_fit multiplier_fits trigger_fits words_fit =
    let tick : p.priority_tick % 256 ≡ p.priority_tick = omega arith in
    let ticks : p.ticks % 256 ≡ p.ticks = omega arith in
    let multiplier : p.multiplier % 256 ≡ p.multiplier = omega arith in
    let trigger : p.trigger % 256 ≡ p.trigger = omega arith in
    let words : length p.path / 2 % 256 ≡ length p.path / 2 = omega arith in
    rw (tick, ticks, multiplier, trigger, words) refl

-- what is written of a request is a text of it
pub open_text_is : (large : Bool) (p : OpenFields) → OpenFits large p → IsOpenText large (open_text large p) p
unfolding open_text
open_text_is large p fits = ((open_numbers large p, p.path), (fits.numbers, fits.words, refl), same_open large p fits)

-- what is written of a request reads as it
pub open_text_reads : (large : Bool) (p : OpenFields) → OpenFits large p → open_reading large (open_text large p) ≡ Ok p
unfolding open_text
open_text_reads large p fits =
    ends_path large (fields_text (open_widths large) (open_numbers large p) ++ p.path) (open_numbers large p) p.path (fields_again (open_widths large) (wide large) (open_numbers large p) p.path fits.numbers) fits.words
    ∙ ap Ok (same_open large p fits)

-- the bytes of what is written
pub open_text_len : (large : Bool) (p : OpenFields) → length (open_text large p) ≡ (if large then 40 else 36) + length p.path
unfolding open_text
open_text_len true p = omega arith
open_text_len false p = omega arith
