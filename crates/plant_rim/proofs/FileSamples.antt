-- Lines and files, worked by hand.
use Rattle.std.proofs.Common.{zero, suc, ◌≡◌, ℕ, ◌<◌, true, false, List, [], ◌∷◌, get_or, Some, None, Result, Ok, Err, refl, ap, ◌∙◌, arith, cond}
use Rattle.std.specs.Prelude.{codes, nat_lt}
use Rattle.std.specs.Fmt.{digits}
use Rattle.std.specs.List.{list_all}
use Rattle.std.specs.Net.Reader.{read_ipv4, read_number, read_octet}
use Rattle.std.specs.Str.{is_utf8}
use Rattle.std.proofs.lemmas.Bool.Decides.{nat_tests}
use Rattle.std.proofs.lemmas.Str.{IsUtf8-from_ascii, is_utf8-from_IsUtf8}
use Rattle.trace_words.specs.Words.{node_of, number_of}
use Rattle.plant_rim.specs.declared.file.faults.PlantLineFault.{PlantLineFault}
use Rattle.plant_rim.specs.declared.file.faults.PlantLineFault.TheVariants as fault
use Rattle.plant_rim.specs.declared.file.faults.PlantFault.TheVariants.{BadLine}
use Rattle.plant_rim.specs.declared.file.line.FaultSetting.TheVariants as setting
use Rattle.plant_rim.specs.declared.file.line.PlantLine.{PlantLine}
use Rattle.plant_rim.specs.declared.file.line.PlantLine.TheVariants as line
use Rattle.plant_rim.specs.File.Lines.{line_of, text_of, worded, worded_text}
use Rattle.plant_rim.specs.File.Plants.{no_options, rates_of}
use Rattle.plant_rim.specs.File.Reading.{draft_after, plant_reading}
use Rattle.plant_rim.specs.File.Sentences.{fault_text}
use Rattle.plant_rim.specs.File.Texts.{behind_word, first_word, is_skipped, trimmed}

-- LINES

ascii : (bytes : List ℕ) → list_all (λ byte. nat_lt byte 128) bytes ≡ true → (i : ℕ) → get_or bytes i 0 < 128
ascii [] all i = omega arith
ascii (byte ∷ bytes) all zero = grind (arith, nat_tests)
ascii (byte ∷ bytes) all (suc i) = ascii bytes (grind (arith, nat_tests)) i

-- a line of ASCII characters is text
said : (bytes : List ℕ) (is : Result PlantLine PlantLineFault) → list_all (λ byte. nat_lt byte 128) (trimmed bytes) ≡ true → is_skipped (trimmed bytes) ≡ false → worded (first_word (trimmed bytes)) (behind_word (trimmed bytes)) ≡ is → line_of bytes ≡ is
unfolding line_of
said bytes is all some same =
    let utf8 : is_utf8 (trimmed bytes) ≡ true = is_utf8-from_IsUtf8 (trimmed bytes) (IsUtf8-from_ascii (trimmed bytes) (ascii (trimmed bytes) all)) in
    ap (λ b. cond b (Ok line.Skipped) (worded_text (text_of (trimmed bytes)))) some
    ∙ ap (λ b. worded_text (cond b (Ok (trimmed bytes)) (Err fault.NotText))) utf8
    ∙ same

empty : line_of [] ≡ Ok line.Skipped
unfolding line_of
empty = refl

blanks : line_of (codes "  ") ≡ Ok line.Skipped
unfolding line_of
blanks = refl

comment : line_of (codes "  # a") ≡ Ok line.Skipped
unfolding line_of
comment = refl

a_setting : line_of (codes "  lose 5") ≡ Ok (line.Fault (setting.Lose 5))
unfolding first_word behind_word worded number_of
a_setting = said _ _ refl refl refl

a_carriage_return_is_a_blank : line_of (codes "delay 60000\r") ≡ Ok (line.Fault (setting.Delay 60000))
unfolding first_word behind_word worded number_of
a_carriage_return_is_a_blank = said _ _ refl refl refl

too_many_percent : line_of (codes "lose 101") ≡ Err fault.BadPercent
unfolding first_word behind_word worded number_of
too_many_percent = said _ _ refl refl refl

two_numbers : line_of (codes "repeat 5 6") ≡ Err fault.BadPercent
unfolding first_word behind_word worded number_of
two_numbers = said _ _ refl refl refl

long_delay : line_of (codes "delay 60001") ≡ Err fault.BadDelay
unfolding first_word behind_word worded number_of
long_delay = said _ _ refl refl refl

a_seed : line_of (codes "seed 7") ≡ Ok (line.Fault (setting.Seed 7))
unfolding first_word behind_word worded number_of
a_seed = said _ _ refl refl refl

no_seed : line_of (codes "seed x") ≡ Err fault.BadSeed
unfolding first_word behind_word worded number_of
no_seed = said _ _ refl refl refl

some_seconds : line_of (codes "seconds 5") ≡ Ok (line.Seconds 5)
unfolding first_word behind_word worded number_of
some_seconds = said _ _ refl refl refl

no_seconds : line_of (codes "seconds 0") ≡ Err fault.BadSeconds
unfolding first_word behind_word worded number_of
no_seconds = said _ _ refl refl refl

a_folder : line_of (codes "record my records") ≡ Ok (line.Record (codes "my records"))
unfolding first_word behind_word worded
a_folder = said _ _ refl refl refl

no_folder : line_of (codes "record") ≡ Err fault.NoFolder
unfolding first_word behind_word worded
no_folder = said _ _ refl refl refl

a_device : line_of (codes "device a p") ≡ Ok (line.Device (codes "a") (codes "p") None)
unfolding first_word behind_word worded
a_device = said _ _ refl refl refl

the_same_name : line_of (codes "device a q") ≡ Ok (line.Device (codes "a") (codes "q") None)
unfolding first_word behind_word worded
the_same_name = said _ _ refl refl refl

another_device : line_of (codes "device b-1 q") ≡ Ok (line.Device (codes "b-1") (codes "q") None)
unfolding first_word behind_word worded
another_device = said _ _ refl refl refl

a_device_at_an_address : line_of (codes "device a p 10.0.0.1") ≡ Ok (line.Device (codes "a") (codes "p") (Some (record { 0 = 167772161 })))
unfolding first_word behind_word worded node_of read_ipv4 read_octet read_number
a_device_at_an_address = said _ _ refl refl refl

another_at_that_address : line_of (codes "device b p 10.0.0.1") ≡ Ok (line.Device (codes "b") (codes "p") (Some (record { 0 = 167772161 })))
unfolding first_word behind_word worded node_of read_ipv4 read_octet read_number
another_at_that_address = said _ _ refl refl refl

no_name : line_of (codes "device a! p") ≡ Err fault.BadName
unfolding first_word behind_word worded
no_name = said _ _ refl refl refl

no_profile : line_of (codes "device a") ≡ Err fault.NoProfile
unfolding first_word behind_word worded
no_profile = said _ _ refl refl refl

no_address : line_of (codes "device a p 10.0.0") ≡ Err fault.BadAddress
unfolding first_word behind_word worded node_of read_ipv4 read_octet read_number
no_address = said _ _ refl refl refl

no_word : line_of (codes "lost 5") ≡ Err fault.UnknownWord
unfolding first_word behind_word worded
no_word = said _ _ refl refl refl

no_time : line_of (codes "every 0 cut") ≡ Err fault.BadTime
unfolding first_word behind_word worded number_of
no_time = said _ _ refl refl refl

one_percent : line_of (codes "lose 1") ≡ Ok (line.Fault (setting.Lose 1))
unfolding first_word behind_word worded number_of
one_percent = said _ _ refl refl refl

two_percent : line_of (codes "lose 2") ≡ Ok (line.Fault (setting.Lose 2))
unfolding first_word behind_word worded number_of
two_percent = said _ _ refl refl refl

-- FILES

a_comment : line_of (codes "#") ≡ Ok line.Skipped
unfolding line_of
a_comment = refl

nothing : plant_reading [] ≡ Err (BadLine 1 fault.NoDevice)
unfolding plant_reading draft_after line_of
nothing = refl

before_a_device : plant_reading (codes "#\nlose 1\n") ≡ Err (BadLine 2 fault.BeforeDevice)
unfolding plant_reading draft_after
before_a_device = rw (a_comment, one_percent) refl

said_twice : plant_reading (codes "device a p\nlose 1\nlose 2\n?") ≡ Err (BadLine 3 fault.SaidTwice)
unfolding plant_reading draft_after
said_twice = rw (a_device, one_percent, two_percent) refl

same_name : plant_reading (codes "device a p\ndevice a q") ≡ Err (BadLine 2 fault.SameName)
unfolding plant_reading draft_after
same_name = rw (a_device, the_same_name) refl

same_address : plant_reading (codes "device a p 10.0.0.1\ndevice b p 10.0.0.1") ≡ Err (BadLine 2 fault.SameAddress)
unfolding plant_reading draft_after
same_address = rw (a_device_at_an_address, another_at_that_address) refl

two_devices : plant_reading (codes "device a p\ndevice b-1 q\nseed 7\nseconds 5") ≡ Ok (record {
  devices = record { name = codes "a"; profile = codes "p"; address = None; faults = no_options; script = [] }
      ∷ record { name = codes "b-1"; profile = codes "q"; address = None; faults = record { lose = None; repeat = None; reorder = None; delay_ms = None; seed = Some 7 }; script = [] } ∷ [];
  seconds = Some 5;
  record_path = None;
})
unfolding plant_reading draft_after
two_devices = rw (a_device, another_device, a_seed, some_seconds) refl

rates_of_a_seed : rates_of (record { lose = Some 3; repeat = None; reorder = None; delay_ms = None; seed = Some 7 }) ≡ record { lose = 3; repeat = 0; reorder = 0; delay_ms = 0; seed = 7 }
rates_of_a_seed = refl

a_sentence : fault_text 7 fault.SameName ≡ codes "line 7: an earlier device has this name"
unfolding digits
a_sentence = refl
