-- The lines of a scanner's profile: how they are read behind their keywords, and how they are written. Their last two
-- words, the trigger and the inhibit time of the target, are left out if it produces cyclically without inhibit time.
use Rattle.std.specs.Prelude.{ℕ, ◌==◌, if◌then◌else◌, Bool, true, false, List, [], ◌∷◌, ◌++◌, codes, flat_map, option_map, Option, Some, None}
use Rattle.cip_netparams.specs.declared.Trigger.{Trigger}
use Rattle.cip_netparams.specs.declared.Trigger.TheVariants.{Cyclic, ChangeOfState}
use Rattle.scanner_table.specs.declared.profile.SlotConfig.{SlotConfig}
use Rattle.scanner_table.specs.declared.profile.ScannerProfile.{ScannerProfile}
use Rattle.trace_lines.specs.declared.forms.Rate.{Rate}
use Rattle.trace_lines.specs.declared.forms.ScannerLine.{ScannerLine}
use Rattle.trace_lines.specs.declared.forms.ScannerTerms.{ScannerTerms}
use Rattle.trace_lines.specs.declared.forms.TermLine.{TermLine}
use Rattle.trace_lines.specs.declared.forms.TermLine.TheVariants.{Openings, Serials}
use Rattle.trace_lines.specs.declared.limit_lines.LimitLine.TheVariants.{Newer}
use Rattle.trace_lines.specs.declared.shapes.TheConstants.{SCANNER, OPENINGS, SERIALS, SLOT, RATE}
use Rattle.trace_lines.specs.Limits.{limit_text}
use Rattle.trace_lines.specs.WrittenProfiles.{ids_text}
use Rattle.trace_words.specs.Words.{line_text}
use Rattle.trace_words.specs.Reader.{Reader, gives, ends, ◌>>=◌}
use Rattle.trace_lines.specs.Shapes.{shaped, spelled}

-- LINES THAT ARE READ

-- incarnation, address, vendor number, serial number, the open timeout and the retry delay
abbrev pub scanner_reader : Reader ScannerLine
scanner_reader = shaped SCANNER (λ incarnation node vendor serial open_timeout retry. ends (record { incarnation = incarnation; node = node; vendor = vendor; serial = serial; open_timeout = open_timeout; retry = retry }))

-- the most openings that wait for replies of one target at one time
abbrev pub openings_reader : Reader TermLine
openings_reader = shaped OPENINGS (λ most. ends (Openings most))

-- the connection serial number of the first opening
abbrev pub serials_reader : Reader TermLine
serials_reader = shaped SERIALS (λ first. ends (Serials first))

-- the trigger of the target's productions, and the least time between two of them at a change
abbrev pub stated_rate : Reader Rate
stated_rate = shaped RATE (λ trigger inhibit. ends (record { trigger = trigger; inhibit = inhibit }))

-- cyclic, if the line ends here
abbrev pub rate_reader : Reader Rate
rate_reader [] = Some (record { trigger = Cyclic; inhibit = 0 }, [])
rate_reader (word ∷ words) = stated_rate (word ∷ words)

-- a slot, in the order of its fields
abbrev pub slot_reader : Reader SlotConfig
slot_reader = shaped SLOT (λ target kind config consumed produced out_len in_len o_t_rpi t_o_rpi mult multicast key config_data. rate_reader >>= λ rate. gives (record {
  target = target;
  kind = kind;
  config = config;
  consumed = consumed;
  produced = produced;
  out_len = out_len;
  in_len = in_len;
  o_t_rpi = o_t_rpi;
  t_o_rpi = t_o_rpi;
  mult = mult;
  multicast = multicast;
  key = key;
  config_data = config_data;
  trigger = rate.trigger;
  inhibit = rate.inhibit;
}))

-- the profile with the values of its lines
abbrev pub scanner_with : ScannerLine → Option ℕ → ScannerTerms → List SlotConfig → ScannerProfile
scanner_with scanner newer terms slots = record {
  incarnation = scanner.incarnation;
  node = scanner.node;
  vendor = scanner.vendor;
  serial = scanner.serial;
  open_timeout = scanner.open_timeout;
  retry = scanner.retry;
  newer = newer;
  tidy = terms.tidy;
  openings = terms.openings;
  serials = terms.serials;
  ids = terms.ids;
  slots = slots;
}

-- WHAT IS WRITTEN

-- the trigger of the target's productions, and the least time between two of them at a change
abbrev pub rate_words : Trigger → ℕ → List (List ℕ)
rate_words Cyclic inhibit = if inhibit == 0 then [] else spelled [] RATE Cyclic inhibit
rate_words ChangeOfState inhibit = spelled [] RATE ChangeOfState inhibit

abbrev pub slot_words : SlotConfig → List (List ℕ)
slot_words slot = spelled (codes "slot" ∷ []) SLOT slot.target slot.kind slot.config slot.consumed slot.produced slot.out_len slot.in_len slot.o_t_rpi slot.t_o_rpi slot.mult slot.multicast slot.key slot.config_data ++ rate_words slot.trigger slot.inhibit

abbrev pub scanner_words : ScannerProfile → List (List ℕ)
scanner_words profile = spelled (codes "scanner" ∷ []) SCANNER profile.incarnation profile.node profile.vendor profile.serial profile.open_timeout profile.retry

abbrev pub slots_text : ScannerProfile → List ℕ
slots_text profile = flat_map (λ slot. line_text (slot_words slot)) profile.slots

-- the line of a scanner that closes each connection which no slot has
abbrev pub tidy_text : Bool → List ℕ
tidy_text true = line_text (codes "tidy" ∷ [])
tidy_text false = []

-- the line of the most openings that wait at one time, if it is stated
abbrev pub openings_words : ℕ → List (List ℕ)
openings_words most = spelled (codes "openings" ∷ []) OPENINGS most

abbrev pub openings_text : Option ℕ → List ℕ
openings_text None = []
openings_text (Some most) = line_text (openings_words most)

-- the line of the first serial number, if it is stated
abbrev pub serials_words : ℕ → List (List ℕ)
serials_words first = spelled (codes "serials" ∷ []) SERIALS first

abbrev pub serials_text : Option ℕ → List ℕ
serials_text None = []
serials_text (Some first) = line_text (serials_words first)

-- what the profile says of openings and of connection ids
abbrev pub terms_of : ScannerProfile → ScannerTerms
terms_of profile = record { tidy = profile.tidy; openings = profile.openings; serials = profile.serials; ids = profile.ids }

abbrev pub terms_text : ScannerTerms → List ℕ
terms_text terms = tidy_text terms.tidy ++ (openings_text terms.openings ++ (serials_text terms.serials ++ ids_text terms.ids))

-- the lines of the limit on numbers, of openings and of connection ids, if there are such, go before the slots
abbrev pub scanner_text : ScannerProfile → List ℕ
scanner_text profile = line_text (scanner_words profile) ++ (limit_text (option_map Newer profile.newer) ++ (terms_text (terms_of profile) ++ slots_text profile))
