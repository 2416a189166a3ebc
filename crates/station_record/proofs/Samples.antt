-- Samples of the definitions, by hand.
use Rattle.std.proofs.Common.{◌≡◌, ℕ, List, [], ◌∷◌, Option, Err, refl}
use Rattle.std.specs.Prelude.{◌++◌, codes, decimal}
use Rattle.cip_datagram.specs.Reading.{datagram_reading}
use Rattle.cip_events.specs.declared.event.Event.TheVariants as event
use Rattle.cip_events.specs.declared.event.StepFault.TheVariants as fault
use Rattle.station_record.specs.declared.fault.RecordFault.{RecordFault}
use Rattle.station_record.specs.declared.recorder.Recorder.{Recorder}
use Rattle.station_record.specs.Records.{IsNoted, IsRecordedAs, entries_of, entry_text, next_number}
use Rattle.station_record.specs.declared.files.Placed.TheVariants.{Same, Next}
use Rattle.station_record.specs.Files.{file_name_text, placed}
use Rattle.station_record.specs.Shortened.{bare_bytes}

-- an event that the device refuses is an entry of its record as another one is, and is handed over to it
refused_entry : entries_of (event.Write 100 []) (Err fault.WrongLength) ≡ (event.Write 100 [], Err fault.WrongLength) ∷ []
refused_entry = refl

refused_is_handed_over : {W : Type 0} (contents : W → Option (List ℕ)) (accepts : W → List ℕ → Type 0) (old new : Recorder W) (answer : Option RecordFault) → IsNoted contents accepts old (event.Write 100 []) (Err fault.WrongLength) new answer → IsRecordedAs contents accepts old.left old.out new.out (entry_text (next_number old) (event.Write 100 []) (Err fault.WrongLength)) answer
refused_is_handed_over contents accepts old new answer noted = noted.0

-- only one that found no memory has none
no_memory_entry : entries_of (event.Write 100 []) (Err fault.OutOfMemory) ≡ []
no_memory_entry = refl

-- a file is filled to its last byte
filled : placed (record { number = 1; bytes = 16777200 }) 16 ≡ (Same, record { number = 1; bytes = 16777216 })
filled = refl

-- one byte more begins the next file
one_too_many : placed (record { number = 1; bytes = 16777200 }) 17 ≡ (Next 2, record { number = 2; bytes = 17 })
one_too_many = refl

-- an empty file takes a piece of any length
alone : placed (record { number = 3; bytes = 0 }) 20000000 ≡ (Same, record { number = 3; bytes = 20000000 })
alone = refl

first_name : file_name_text (codes "a.trace") 1 ≡ codes "a.trace"
first_name = refl

third_name : file_name_text (codes "a.trace") 3 ≡ codes "a.trace." ++ decimal 3
third_name = refl

-- a datagram of four bytes of data: the data go, and the second length is 2
without_its_data : bare_bytes (datagram_reading (2 ∷ 0 ∷ 0x02 ∷ 0x80 ∷ 8 ∷ 0 ∷ 0x44 ∷ 0x33 ∷ 0x22 ∷ 0x11 ∷ 0x88 ∷ 0x77 ∷ 0x66 ∷ 0x55 ∷ 0xB1 ∷ 0 ∷ 6 ∷ 0 ∷ 0xAA ∷ 0x99 ∷ 1 ∷ 2 ∷ 3 ∷ 4 ∷ []))
    ≡ 2 ∷ 0 ∷ 0x02 ∷ 0x80 ∷ 8 ∷ 0 ∷ 0x44 ∷ 0x33 ∷ 0x22 ∷ 0x11 ∷ 0x88 ∷ 0x77 ∷ 0x66 ∷ 0x55 ∷ 0xB1 ∷ 0 ∷ 2 ∷ 0 ∷ 0xAA ∷ 0x99 ∷ []
unfolding datagram_reading
without_its_data = refl

-- bytes that are no datagram
no_datagram : bare_bytes (datagram_reading (1 ∷ 2 ∷ 3 ∷ [])) ≡ []
unfolding datagram_reading
no_datagram = refl
