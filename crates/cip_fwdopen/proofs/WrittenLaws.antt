-- Replies that are written are read again.
use Rattle.std.proofs.Common.{◌≡◌, ◌≢◌, ℕ, ◌*◌, ◌%◌, ◌<◌, ◌^◌, Bool, true, false, List, [], ◌∷◌, ◌++◌, length, Option, Some, None, Ok, refl, sym, ap, arith, inr}
use Rattle.std.specs.Prelude.{IfSome}
use Rattle.std.specs.Option.{option_map}
use Rattle.std.specs.Int.{w16, to_le_bytes}
use Rattle.std.proofs.lemmas.List.{append-nil}
use Rattle.cip_types.specs.declared.Fault.{Fault}
use Rattle.cip_types.specs.declared.Triad.{Triad}
use Rattle.cip_types.specs.Fields.{fields_text, field_at}
use Rattle.cip_types.specs.FieldLaws.{wide16, field_again}
use Rattle.cip_fwdopen.specs.declared.reply.Opened as made
use Rattle.cip_fwdopen.specs.Front.{Begins}
use Rattle.cip_fwdopen.specs.Reply.{reply_service, opened_widths, opened_numbers, opened_service, opened_text, opened_reply, refused_text, refused_reply, failure_text, reply_widths, IsReplyFront, IsOpenedText, IsFailureText, IsAnswerText, refused_by, IsReplyText, IsOpenReplyText, open_reply_reading, OpenedFits, TriadFits, RefusedFits}
use Rattle.cip_fwdopen.proofs.OpenReplyLaws.{reply_reads}

-- ---- what stands in front of the data

head_text : (service general words : ℕ) → service < 256 → general < 256 → words < 256 → fields_text reply_widths (service ∷ 0 ∷ general ∷ words ∷ []) ≡ service ∷ 0 ∷ general ∷ words ∷ []
head_text service general words sl gl wl =
    let a : service % 256 ≡ service = omega arith in
    let b : general % 256 ≡ general = omega arith in
    let c : words % 256 ≡ words = omega arith in
    rw (a, b, c) refl

pub front_stands : (service general words : ℕ) (extended_words rest : List ℕ) → service < 256 → general < 256 → words < 256 → length extended_words ≡ 2 * words → Begins IsReplyFront (service ∷ 0 ∷ general ∷ words ∷ (extended_words ++ rest)) (service ∷ 0 ∷ general ∷ words ∷ [], extended_words) rest
front_stands service general words extended_words rest sl gl wl len =
    (service ∷ 0 ∷ general ∷ words ∷ extended_words, ((omega arith, (omega arith, (omega arith, (omega arith, tt)))), len, ap (λ (x : List ℕ). x ++ extended_words) (sym (head_text service general words sl gl wl))), refl)

-- ---- a success

opened_data : (o : made.Opened) → OpenedFits o → IsOpenedText (fields_text opened_widths (opened_numbers o 0 0)) o
opened_data o fits = ((opened_numbers o 0 0, []), (fits, refl, sym (append-nil (fields_text opened_widths (opened_numbers o 0 0)))), refl)

opened_with : (service : ℕ) (o : made.Opened) → service < 256 → OpenedFits o → IsOpenReplyText (service ∷ 0 ∷ 0 ∷ 0 ∷ fields_text opened_widths (opened_numbers o 0 0)) (record { service = service; answer = Rattle.cip_fwdopen.specs.declared.reply.OpenAnswer.TheVariants.Opened o })
opened_with service o small fits =
    ((service ∷ 0 ∷ 0 ∷ 0 ∷ [], []), fields_text opened_widths (opened_numbers o 0 0), front_stands service 0 0 [] (fields_text opened_widths (opened_numbers o 0 0)) small (omega arith) (omega arith) refl, refl, (refl, opened_data o fits))

service_small : (large : Bool) → opened_service large < 256
service_small true = omega arith
service_small false = omega arith

-- what is written of an opened connection is a text of it
pub opened_text_is : (large : Bool) (o : made.Opened) → OpenedFits o → IsOpenReplyText (opened_text large o) (opened_reply large o)
unfolding opened_text
opened_text_is large o fits = opened_with (opened_service large) o (service_small large) fits

-- what is written of an opened connection reads as it
pub opened_text_reads : (large : Bool) (o : made.Opened) → OpenedFits o → open_reply_reading (opened_text large o) ≡ Ok (opened_reply large o)
opened_text_reads large o fits = reply_reads (opened_text large o) (opened_reply large o) (opened_text_is large o fits)

-- ---- a refusal

failure_data : (triad : Option Triad) → IfSome triad TriadFits → IsFailureText (failure_text triad) triad
failure_data None fits = refl
failure_data (Some t) fits = (fits, (0 ∷ 0 ∷ [], inr refl, refl))

abbrev fault_with : ℕ → Option ℕ → Fault
fault_with general extended = record { general = general; extended = extended }

word_back : (code : ℕ) → code < 2 ^ 16 → option_map (λ (x : ℕ × List ℕ). x.0) (field_at w16 (to_le_bytes w16 code)) ≡ Some code
word_back code small = ap (option_map (λ (x : ℕ × List ℕ). x.0)) (field_again w16 wide16 code [] small)

-- a refusal is a text of each kind of reply that says by a fault and a failure's data what it does
pub refused_among : {A : Type 0} (IsAnswer : Fault → List ℕ → A → Type 0) (answer : A) (service general : ℕ) (extended : Option ℕ) (triad : Option Triad)
    → ((f : Fault) (text : List ℕ) → f.general ≢ 0 → fault_with general extended ≡ f → IsFailureText text triad → IsAnswer f text answer)
    → RefusedFits (fault_with general extended) triad → IsReplyText IsAnswer (refused_text service (fault_with general extended) triad) (reply_service service) answer
unfolding refused_text
refused_among IsAnswer answer service general None triad kept fits =
    ((reply_service service ∷ 0 ∷ general ∷ 0 ∷ [], []), failure_text triad, front_stands (reply_service service) general 0 [] (failure_text triad) (omega arith) fits.general (omega arith) refl, refl, kept (fault_with general None) (failure_text triad) fits.refuses refl (failure_data triad fits.triad))
refused_among IsAnswer answer service general (Some code) triad kept fits = (
  (reply_service service ∷ 0 ∷ general ∷ 1 ∷ [], to_le_bytes w16 code),
  failure_text triad,
  front_stands (reply_service service) general 1 (to_le_bytes w16 code) (failure_text triad) (omega arith) fits.general (omega arith) refl,
  refl,
  kept (fault_with general (option_map (λ (x : ℕ × List ℕ). x.0) (field_at w16 (to_le_bytes w16 code)))) (failure_text triad) fits.refuses (ap (fault_with general) (sym (word_back code fits.extended))) (failure_data triad fits.triad),
)

-- what is written of a refusal is a text of it
pub refused_text_is : (service : ℕ) (fault : Fault) (triad : Option Triad) → RefusedFits fault triad → IsOpenReplyText (refused_text service fault triad) (refused_reply service fault triad)
refused_text_is service fault triad fits = refused_among IsAnswerText (refused_by fault triad) service fault.general fault.extended triad (λ f text refuses same is. (refuses, same, is)) fits

-- what is written of a refusal reads as it
pub refused_text_reads : (service : ℕ) (fault : Fault) (triad : Option Triad) → RefusedFits fault triad → open_reply_reading (refused_text service fault triad) ≡ Ok (refused_reply service fault triad)
refused_text_reads service fault triad fits = reply_reads (refused_text service fault triad) (refused_reply service fault triad) (refused_text_is service fault triad fits)
