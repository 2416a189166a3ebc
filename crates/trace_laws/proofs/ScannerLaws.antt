-- A scanner's profile that is written is read as itself.
use Rattle.std.proofs.Common.{◌≡◌, ℕ, zero, suc, ◌<◌, ◌+◌, ◌^◌, ◌%◌, Bool, true, false, List, [], ◌∷◌, ◌++◌, length, Option, Some, None, refl, sym, ap, subst, ◌∙◌, arith, eqb, append_assoc}
use Rattle.std.proofs.Math.Bridge.{le_prop}
use Rattle.std.specs.Prelude.{decimal, codes, drop, flat_map, nat_le, if◌then◌else◌, option_map, option_and_then, IfSome}
use Rattle.std.specs.List.{All}
use Rattle.std.specs.Str.{all_ascii_digits}
use Rattle.std.specs.Str.Parse.{digits_value}
use Rattle.std.specs.Char.{is_ascii_digit}
use Rattle.std.proofs.lemmas.Bool.Decides.{nat_tests}
use Rattle.std.proofs.lemmas.Fmt.{digits_decimal, decimal_nonempty}
use Rattle.std.proofs.lemmas.List.{append-nil}
use Rattle.std.proofs.lemmas.Nat.{from_le_bytes-to_le_bytes_2}
use Rattle.std.proofs.lemmas.Str.Parse.{IsNumeralModel, numerals_by_value, tells_all_ascii_digits}
use Rattle.hex.specs.Hex.{IsBytes}
use Rattle.cip_epath.specs.declared.key.ElectronicKey.{ElectronicKey}
use Rattle.cip_epath.specs.ElectronicKey.{view_key}
use Rattle.cip_epath.specs.Segment.{key_text}
use Rattle.cip_netparams.specs.declared.Trigger.{Trigger}
use Rattle.cip_netparams.specs.declared.Trigger.TheVariants.{Cyclic, ChangeOfState}
use Rattle.cip_productions.specs.declared.kind.Kind.{Kind}
use Rattle.cip_productions.specs.declared.kind.Kind.TheVariants.{ExclusiveOwner, InputOnly, ListenOnly}
use Rattle.scanner_table.specs.declared.profile.ScannerProfile.{ScannerProfile}
use Rattle.scanner_table.specs.declared.profile.SlotConfig.{SlotConfig}
use Rattle.trace_words.specs.Words.{number_of, node_of, bytes_of, instance_of, is_dash, bytes_word, line_text}
use Rattle.trace_words.specs.Reader.{Reader, ◌>>=◌, next_word, gives}
use Rattle.cip_types.specs.declared.ids.IdBlock.{IdBlock}
use Rattle.trace_lines.specs.declared.forms.Rate.{Rate}
use Rattle.trace_lines.specs.declared.forms.ScannerLine.{ScannerLine}
use Rattle.trace_lines.specs.declared.forms.ScannerTerms.{ScannerTerms}
use Rattle.trace_lines.specs.declared.forms.TermLine.TheVariants as term
use Rattle.trace_lines.specs.Kinds.{kind_of, multicast_of, trigger_of, key_of_bytes, key_of, key_with, kind_word, multicast_word, instance_word, key_word}
use Rattle.trace_lines.specs.declared.limit_lines.LimitLine.TheVariants as limit
use Rattle.trace_lines.specs.Limits.{limit_text}
use Rattle.trace_lines.specs.WrittenProfiles.{ids_text}
use Rattle.trace_lines.specs.Slots.{rate_reader, slot_reader, rate_words, slot_words, scanner_words, tidy_text, openings_text, serials_text, terms_of, terms_text, scanner_text}
use Rattle.trace_text.specs.declared.builder.TraceBuilder.TheVariants.{Empty, Slots}
use Rattle.trace_text.specs.declared.forms.TraceLine.TheVariants as line
use Rattle.trace_text.specs.Forms.{line_reader}
use Rattle.trace_text.specs.Reading.{no_terms}
use Rattle.trace_laws.specs.TraceBack.{IdsFit, KeyFits, SlotFits, ScannerFits}
use Rattle.trace_laws.proofs.WordLaws.{node_back, bytes_back}
use Rattle.trace_laws.proofs.CleanWords.{decimal_clean, node_clean, bytes_clean}
use Rattle.trace_laws.proofs.LineLaws.{is_clean, are_clean, both, and_both}
use Rattle.trace_laws.proofs.ProfileLaws.{n8, n16, n32, n64, c8, c16, c32, ids_reads, limit_reads}
use Rattle.trace_laws.proofs.TextLaws.{first_of, rest_of, Reads, reads_none, reads_both, line_reads, next_reads, then_reads}

-- WORDS

kind_back : (kind : Kind) → kind_of (kind_word kind) ≡ Some kind
unfolding kind_of
kind_back ExclusiveOwner = refl
kind_back InputOnly = refl
kind_back ListenOnly = refl

kind_clean : (kind : Kind) → is_clean (kind_word kind) ≡ true
kind_clean ExclusiveOwner = refl
kind_clean InputOnly = refl
kind_clean ListenOnly = refl

multicast_back : (multicast : Bool) → multicast_of (multicast_word multicast) ≡ Some multicast
unfolding multicast_of
multicast_back true = refl
multicast_back false = refl

multicast_clean : (multicast : Bool) → is_clean (multicast_word multicast) ≡ true
multicast_clean true = refl
multicast_clean false = refl

own : IsNumeralModel (λ word. all_ascii_digits word ≡ true) (digits_value 10)
own = numerals_by_value _ tells_all_ascii_digits

undashed : (word : List ℕ) → 0 < length word → all_ascii_digits word ≡ true → is_dash word ≡ false
undashed [] some digits = absurd (omega (arith, some))
undashed (c ∷ cs) some digits =
    let first : is_ascii_digit c ≡ true = (both (is_ascii_digit c) (all_ascii_digits cs) digits).0 in
    let other : eqb c 45 ≡ false = grind (arith, nat_tests, first) in
    rw other refl

pub instance_back : (instance : Option ℕ) → IfSome instance (λ number. number < 2 ^ 32) → instance_of (instance_word instance) ≡ Some instance
unfolding instance_of
instance_back None fits = refl
instance_back (Some number) fits =
    let small : number < 2 ^ 64 = omega (arith, fits) in
    rw (undashed (decimal number) (decimal_nonempty number small) (digits_decimal own number small), n32 number fits) refl

pub instance_clean : (instance : Option ℕ) → IfSome instance (λ number. number < 2 ^ 32) → is_clean (instance_word instance) ≡ true
instance_clean None fits = refl
instance_clean (Some number) fits = c32 number fits

-- KEYS

-- the bytes of a key behind its format
abbrev key_bytes : Option ElectronicKey → List ℕ
key_bytes None = []
key_bytes (Some key) = drop 2 (key_text (view_key key))

bit_of : (compatible : Bool) (major : ℕ) → major < 128 → nat_le 128 (major + (if compatible then 128 else 0)) ≡ compatible
bit_of true major small = grind (arith, nat_tests, small)
bit_of false major small = grind (arith, nat_tests, small)

major_of : (compatible : Bool) (major : ℕ) → major < 128 → (major + (if compatible then 128 else 0)) % 128 ≡ major
major_of true major small = omega (arith, small)
major_of false major small = omega (arith, small)

abbrev key_with_fields : (v t p : ℕ) (c : Bool) (m n : ℕ) → m < 128 → ElectronicKey
key_with_fields v t p c m n s = record { vendor = v; device_type = t; product = p; compatible = c; major = m; minor = n; seven_bits = s }

same_fields : (v v' t t' p p' m n : ℕ) (c c' : Bool) (s s' : m < 128) → v ≡ v' → t ≡ t' → p ≡ p' → c ≡ c' → key_with_fields v t p c m n s ≡ key_with_fields v' t' p' c' m n s'
same_fields v v' t t' p p' m n c c' s s' ve te pe ce = λ i. record {
  vendor = ve i;
  device_type = te i;
  product = pe i;
  compatible = ce i;
  major = m;
  minor = n;
  seven_bits = le_prop s s' i;
}

-- a key is its fields: that its major revision has seven bits has one proof
same_key : (v v' t t' p p' m m' n : ℕ) (c c' : Bool) (s : m < 128) (s' : m' < 128) → v ≡ v' → t ≡ t' → p ≡ p' → c ≡ c' → m ≡ m' → key_with_fields v t p c m n s ≡ key_with_fields v' t' p' c' m' n s'
same_key v v' t t' p p' m m' n c c' s s' ve te pe ce me = subst (λ k. (s' : k < 128) → key_with_fields v t p c m n s ≡ key_with_fields v' t' p' c' k n s') me (λ s'. same_fields v v' t t' p p' m n c c' s s' ve te pe ce) s'

key_same : (key : ElectronicKey) → KeyFits key → key_with (key_bytes (Some key)) ≡ key
key_same key fits = same_key _ _ _ _ _ _ _ _ _ _ _ _ _
    (from_le_bytes-to_le_bytes_2 key.vendor fits.0)
    (from_le_bytes-to_le_bytes_2 key.device_type fits.1)
    (from_le_bytes-to_le_bytes_2 key.product fits.2)
    (bit_of key.compatible key.major key.seven_bits)
    (major_of key.compatible key.major key.seven_bits)

key_back : (key : Option ElectronicKey) → IfSome key KeyFits → key_of_bytes (key_bytes key) ≡ Some key
unfolding key_of_bytes
key_back None fits = refl
key_back (Some key) fits = ap (λ (k : ElectronicKey). Some (Some k)) (key_same key fits)

revision_fits : (compatible : Bool) (major : ℕ) → major < 128 → major + (if compatible then 128 else 0) < 2 ^ 8
revision_fits true major small = omega (arith, small)
revision_fits false major small = omega (arith, small)

bytes_fit : (key : ElectronicKey) → KeyFits key → IsBytes (key_bytes (Some key))
bytes_fit key fits zero = omega arith
bytes_fit key fits (suc zero) = omega (arith, fits.0)
bytes_fit key fits (suc (suc zero)) = omega arith
bytes_fit key fits (suc (suc (suc zero))) = omega (arith, fits.1)
bytes_fit key fits (suc (suc (suc (suc zero)))) = omega arith
bytes_fit key fits (suc (suc (suc (suc (suc zero))))) = omega (arith, fits.2)
bytes_fit key fits (suc (suc (suc (suc (suc (suc zero)))))) = revision_fits key.compatible key.major key.seven_bits
bytes_fit key fits (suc (suc (suc (suc (suc (suc (suc zero))))))) = fits.3
bytes_fit key fits (suc (suc (suc (suc (suc (suc (suc (suc i)))))))) = omega arith

key_is_bytes : (key : Option ElectronicKey) → key_word key ≡ bytes_word (key_bytes key)
key_is_bytes None = refl
key_is_bytes (Some key) = refl

all_bytes : (key : Option ElectronicKey) → IfSome key KeyFits → IsBytes (key_bytes key)
all_bytes None fits i = omega arith
all_bytes (Some key) fits i = bytes_fit key fits i

key_read : (key : Option ElectronicKey) → IfSome key KeyFits → key_of (key_word key) ≡ Some key
key_read key fits =
    let spelled : bytes_of (key_word key) ≡ Some (key_bytes key) = ap bytes_of (key_is_bytes key) ∙ bytes_back (key_bytes key) (all_bytes key fits) in
    ap (option_and_then key_of_bytes) spelled ∙ key_back key fits

key_clean : (key : Option ElectronicKey) → IfSome key KeyFits → is_clean (key_word key) ≡ true
key_clean key fits = ap is_clean (key_is_bytes key) ∙ bytes_clean (key_bytes key) (all_bytes key fits)

-- THE TRIGGER AND THE INHIBIT TIME

cyclic_back : trigger_of (codes "cyclic") ≡ Some Cyclic
unfolding trigger_of
cyclic_back = refl

change_back : trigger_of (codes "change") ≡ Some ChangeOfState
unfolding trigger_of
change_back = refl

rate_read : (trigger : Trigger) (inhibit : ℕ) → inhibit < 2 ^ 8 → rate_reader (rate_words trigger inhibit) ≡ Some (record { trigger = trigger; inhibit = inhibit }, [])
rate_read Cyclic zero fits = refl
rate_read Cyclic (suc inhibit) fits =
    let some : eqb (suc inhibit) 0 ≡ false = grind (arith, nat_tests) in
    rw some (next_reads trigger_of _ _ _ Cyclic _ cyclic_back (next_reads (number_of 8) _ _ _ (suc inhibit) _ (n8 (suc inhibit) fits) refl))
rate_read ChangeOfState inhibit fits = next_reads trigger_of _ _ _ ChangeOfState _ change_back (next_reads (number_of 8) _ _ _ inhibit _ (n8 inhibit fits) refl)

rate_clean : (trigger : Trigger) (inhibit : ℕ) → inhibit < 2 ^ 8 → are_clean (rate_words trigger inhibit) ≡ true
rate_clean Cyclic zero fits = refl
rate_clean Cyclic (suc inhibit) fits =
    let some : eqb (suc inhibit) 0 ≡ false = grind (arith, nat_tests) in
    rw some (and_both _ _ refl (and_both _ _ (c8 (suc inhibit) fits) refl))
rate_clean ChangeOfState inhibit fits = and_both _ _ refl (and_both _ _ (c8 inhibit fits) refl)

-- THE LINES

-- the words of a slot behind its keyword
abbrev behind_slot : SlotConfig → List (List ℕ)
behind_slot slot = drop 1 (slot_words slot)

-- the slot with this key, this configuration data and this rate
abbrev slot_with : SlotConfig → Option ElectronicKey → List ℕ → Rate → SlotConfig
slot_with slot key config_data rate = record slot { key = key; config_data = config_data; trigger = rate.trigger; inhibit = rate.inhibit }

-- what reads on behind the data, behind the key, and behind the words before it
abbrev then_rate : SlotConfig → Option ElectronicKey → List ℕ → Rate → Reader SlotConfig
then_rate slot key config_data rate = gives (slot_with slot key config_data rate)

abbrev then_data : SlotConfig → Option ElectronicKey → List ℕ → Reader SlotConfig
then_data slot key config_data = rate_reader >>= then_rate slot key config_data

abbrev then_key : SlotConfig → Option ElectronicKey → Reader SlotConfig
then_key slot key = next_word bytes_of >>= then_data slot key

slot_read : (slot : SlotConfig) → SlotFits slot → slot_reader (behind_slot slot) ≡ Some (slot, [])
slot_read slot fits =
    next_reads node_of _ _ _ slot.target _ (node_back slot.target fits.target_fits)
    (next_reads kind_of _ _ _ slot.kind _ (kind_back slot.kind)
    (next_reads instance_of _ _ _ slot.config _ (instance_back slot.config fits.config_fits)
    (next_reads (number_of 32) _ _ _ slot.consumed _ (n32 _ fits.consumed_fits)
    (next_reads (number_of 32) _ _ _ slot.produced _ (n32 _ fits.produced_fits)
    (next_reads (number_of 64) _ _ _ slot.out_len _ (n64 _ fits.out_len_fits)
    (next_reads (number_of 64) _ _ _ slot.in_len _ (n64 _ fits.in_len_fits)
    (next_reads (number_of 32) _ _ _ slot.o_t_rpi _ (n32 _ fits.o_t_rpi_fits)
    (next_reads (number_of 32) _ _ _ slot.t_o_rpi _ (n32 _ fits.t_o_rpi_fits)
    (next_reads (number_of 8) _ _ _ slot.mult _ (n8 _ fits.mult_fits)
    (next_reads multicast_of _ _ _ slot.multicast _ (multicast_back slot.multicast)
    (next_reads key_of (then_key slot) _ (bytes_word slot.config_data ∷ rate_words slot.trigger slot.inhibit) slot.key _ (key_read slot.key fits.key_fits)
    (next_reads bytes_of (then_data slot slot.key) _ (rate_words slot.trigger slot.inhibit) slot.config_data _ (bytes_back slot.config_data fits.config_data_fits)
    (then_reads rate_reader (then_rate slot slot.key slot.config_data) (rate_words slot.trigger slot.inhibit) (record { trigger = slot.trigger; inhibit = slot.inhibit }) [] _ (rate_read slot.trigger slot.inhibit fits.inhibit_fits) refl)))))))))))))

slot_line_read : (slot : SlotConfig) → SlotFits slot → line_reader (slot_words slot) ≡ Some (line.Slot slot, [])
slot_line_read slot fits = then_reads slot_reader (λ value. gives (line.Slot value)) (behind_slot slot) slot [] _ (slot_read slot fits) refl

slot_clean : (slot : SlotConfig) → SlotFits slot → are_clean (behind_slot slot) ≡ true
slot_clean slot fits =
    and_both _ _ (node_clean slot.target)
    (and_both _ _ (kind_clean slot.kind)
    (and_both _ _ (instance_clean slot.config fits.config_fits)
    (and_both _ _ (c32 _ fits.consumed_fits)
    (and_both _ _ (c32 _ fits.produced_fits)
    (and_both _ _ (decimal_clean _ fits.out_len_fits)
    (and_both _ _ (decimal_clean _ fits.in_len_fits)
    (and_both _ _ (c32 _ fits.o_t_rpi_fits)
    (and_both _ _ (c32 _ fits.t_o_rpi_fits)
    (and_both _ _ (c8 _ fits.mult_fits)
    (and_both _ _ (multicast_clean slot.multicast)
    (and_both _ _ (key_clean slot.key fits.key_fits)
    (and_both _ _ (bytes_clean slot.config_data fits.config_data_fits)
    (rate_clean slot.trigger slot.inhibit fits.inhibit_fits)))))))))))))

abbrev pub scanner_line : ScannerProfile → ScannerLine
scanner_line profile = record { incarnation = profile.incarnation; node = profile.node; vendor = profile.vendor; serial = profile.serial; open_timeout = profile.open_timeout; retry = profile.retry }

scanner_line_read : (profile : ScannerProfile) → ScannerFits profile → line_reader (scanner_words profile) ≡ Some (line.Scanner (scanner_line profile), [])
scanner_line_read profile fits = rw (n8 profile.incarnation fits.incarnation_fits, node_back profile.node fits.node_fits, n16 profile.vendor fits.vendor_fits, n32 profile.serial fits.serial_fits, n64 profile.open_timeout fits.open_timeout_fits, n64 profile.retry fits.retry_fits) refl

scanner_clean : (profile : ScannerProfile) → ScannerFits profile → are_clean (drop 1 (scanner_words profile)) ≡ true
scanner_clean profile fits =
    and_both _ _ (c8 _ fits.incarnation_fits)
    (and_both _ _ (node_clean profile.node)
    (and_both _ _ (c16 _ fits.vendor_fits)
    (and_both _ _ (c32 _ fits.serial_fits)
    (and_both _ _ (decimal_clean _ fits.open_timeout_fits)
    (and_both _ _ (decimal_clean _ fits.retry_fits) refl)))))

-- ONE AFTER THE OTHER

slots_read : (scanner : ScannerLine) (newer : Option ℕ) (terms : ScannerTerms) (before slots : List SlotConfig) → All SlotFits slots → Reads (Slots scanner newer terms before) (flat_map (λ slot. line_text (slot_words slot)) slots) (Slots scanner newer terms (before ++ slots))
slots_read scanner newer terms before [] fit = subst (λ all. Reads (Slots scanner newer terms before) [] (Slots scanner newer terms all)) (sym (append-nil before)) (reads_none (Slots scanner newer terms before))
slots_read scanner newer terms before (slot ∷ slots) fit =
    let fits : SlotFits slot = first_of SlotFits slot slots fit in
    let one : Reads (Slots scanner newer terms before) (line_text (slot_words slot)) (Slots scanner newer terms (before ++ slot ∷ [])) = line_reads _ _ (codes "slot") (behind_slot slot) (line.Slot slot) refl refl (slot_clean slot fits) (slot_line_read slot fits) refl in
    let more : Reads (Slots scanner newer terms (before ++ slot ∷ [])) (flat_map (λ s. line_text (slot_words s)) slots) (Slots scanner newer terms (before ++ slot ∷ slots)) = subst (λ all. Reads (Slots scanner newer terms (before ++ slot ∷ [])) (flat_map (λ s. line_text (slot_words s)) slots) (Slots scanner newer terms all)) (append_assoc before (slot ∷ []) slots) (slots_read scanner newer terms (before ++ slot ∷ []) slots (rest_of SlotFits slot slots fit)) in
    reads_both _ _ _ _ _ one more

-- the line of the limit on numbers, if there is one
newer_read : (scanner : ScannerLine) (newer : Option ℕ) → IfSome newer (λ within. within < 2 ^ 32) → Reads (Slots scanner None no_terms []) (limit_text (option_map limit.Newer newer)) (Slots scanner newer no_terms [])
newer_read scanner None fit = reads_none (Slots scanner None no_terms [])
newer_read scanner (Some within) fit = limit_reads (Slots scanner None no_terms []) (Slots scanner (Some within) no_terms []) (limit.Newer within) fit refl

-- the line of a tidy scanner
tidy_read : (scanner : ScannerLine) (newer : Option ℕ) (tidy : Bool) → Reads (Slots scanner newer no_terms []) (tidy_text tidy) (Slots scanner newer (record { tidy = tidy; openings = None; serials = None; ids = None }) [])
tidy_read scanner newer true = line_reads (Slots scanner newer no_terms []) (Slots scanner newer (record { tidy = true; openings = None; serials = None; ids = None }) []) (codes "tidy") [] (line.Term term.Tidy) refl refl refl refl refl
tidy_read scanner newer false = reads_none (Slots scanner newer no_terms [])

-- the lines of the most openings and of the first serial number, if they are stated
openings_read : (scanner : ScannerLine) (newer : Option ℕ) (tidy : Bool) (openings : Option ℕ) → IfSome openings (λ most. most < 2 ^ 8) → Reads (Slots scanner newer (record { tidy = tidy; openings = None; serials = None; ids = None }) []) (openings_text openings) (Slots scanner newer (record { tidy = tidy; openings = openings; serials = None; ids = None }) [])
openings_read scanner newer tidy None fit = reads_none (Slots scanner newer (record { tidy = tidy; openings = None; serials = None; ids = None }) [])
openings_read scanner newer tidy (Some most) fit =
    line_reads (Slots scanner newer (record { tidy = tidy; openings = None; serials = None; ids = None }) []) (Slots scanner newer (record { tidy = tidy; openings = Some most; serials = None; ids = None }) []) (codes "openings") (decimal most ∷ []) (line.Term (term.Openings most)) refl refl (and_both _ _ (c8 most fit) refl) (rw (n8 most fit) refl) refl

serials_read : (scanner : ScannerLine) (newer : Option ℕ) (tidy : Bool) (openings serials : Option ℕ) → IfSome serials (λ first. first < 2 ^ 16) → Reads (Slots scanner newer (record { tidy = tidy; openings = openings; serials = None; ids = None }) []) (serials_text serials) (Slots scanner newer (record { tidy = tidy; openings = openings; serials = serials; ids = None }) [])
serials_read scanner newer tidy openings None fit = reads_none (Slots scanner newer (record { tidy = tidy; openings = openings; serials = None; ids = None }) [])
serials_read scanner newer tidy openings (Some first) fit =
    line_reads (Slots scanner newer (record { tidy = tidy; openings = openings; serials = None; ids = None }) []) (Slots scanner newer (record { tidy = tidy; openings = openings; serials = Some first; ids = None }) []) (codes "serials") (decimal first ∷ []) (line.Term (term.Serials first)) refl refl (and_both _ _ (c16 first fit) refl) (rw (n16 first fit) refl) refl

counted_read : (scanner : ScannerLine) (newer : Option ℕ) (tidy : Bool) (openings serials : Option ℕ) (ids : Option IdBlock) → IfSome ids IdsFit → Reads (Slots scanner newer (record { tidy = tidy; openings = openings; serials = serials; ids = None }) []) (ids_text ids) (Slots scanner newer (record { tidy = tidy; openings = openings; serials = serials; ids = ids }) [])
counted_read scanner newer tidy openings serials None fit = reads_none (Slots scanner newer (record { tidy = tidy; openings = openings; serials = serials; ids = None }) [])
counted_read scanner newer tidy openings serials (Some block) fit =
    ids_reads (Slots scanner newer (record { tidy = tidy; openings = openings; serials = serials; ids = None }) []) (Slots scanner newer (record { tidy = tidy; openings = openings; serials = serials; ids = Some block }) []) block fit refl

terms_read : (scanner : ScannerLine) (newer : Option ℕ) (tidy : Bool) (openings serials : Option ℕ) (ids : Option IdBlock) → IfSome openings (λ most. most < 2 ^ 8) → IfSome serials (λ first. first < 2 ^ 16) → IfSome ids IdsFit → Reads (Slots scanner newer no_terms []) (terms_text (record { tidy = tidy; openings = openings; serials = serials; ids = ids })) (Slots scanner newer (record { tidy = tidy; openings = openings; serials = serials; ids = ids }) [])
terms_read scanner newer tidy openings serials ids few short fit =
    reads_both _ _ _ _ _ (tidy_read scanner newer tidy)
    (reads_both _ _ _ _ _ (openings_read scanner newer tidy openings few)
    (reads_both _ _ _ _ _ (serials_read scanner newer tidy openings serials short) (counted_read scanner newer tidy openings serials ids fit)))

pub scanner_read : (profile : ScannerProfile) → ScannerFits profile → Reads Empty (scanner_text profile) (Slots (scanner_line profile) profile.newer (terms_of profile) profile.slots)
scanner_read profile fits =
    let one : Reads Empty (line_text (scanner_words profile)) (Slots (scanner_line profile) None no_terms []) = line_reads _ _ (codes "scanner") (drop 1 (scanner_words profile)) (line.Scanner (scanner_line profile)) refl refl (scanner_clean profile fits) (scanner_line_read profile fits) refl in
    reads_both _ _ _ _ _ one (reads_both _ _ _ _ _ (newer_read (scanner_line profile) profile.newer fits.newer_fits) (reads_both _ _ _ _ _ (terms_read (scanner_line profile) profile.newer profile.tidy profile.openings profile.serials profile.ids fits.openings_fit fits.serials_fit fits.ids_fit) (slots_read (scanner_line profile) profile.newer (terms_of profile) [] profile.slots fits.slots_fit)))
