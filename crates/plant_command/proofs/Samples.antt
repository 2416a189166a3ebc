-- The lives of a plant's devices, worked by hand.
use Rattle.std.specs.Prelude.{ℕ, ◌≡◌, ◌∷◌, [], ◌++◌, codes, decimal, true, false, Some, None, Err, refl}
use Rattle.plant_rim.specs.declared.failure.DeviceFailure.TheVariants.{RecordEnd}
use Rattle.station.specs.declared.step.LifeEnd.TheVariants.{Over, Restart}
use Rattle.station_port.specs.declared.place.StationPlace.{StationPlace}
use Rattle.station_record.specs.declared.fault.RecordFault.TheVariants.{Refused}
use Rattle.trace_words.specs.Words.{node_word}
use Rattle.plant_command.specs.declared.endings.LifeNames.{LifeNames}
use Rattle.plant_command.specs.DeviceLines.{device_line, device_lines}
use Rattle.plant_command.specs.Endings.{is_over, is_stillborn, life_end, next_names, seconds_of}
use Rattle.plant_command.specs.Lives.{life_text, start_text}
use Rattle.plant_command.specs.Paths.{path_in}

seconds : (seconds_of (Some 5) (Some 9) ≡ Some 5) × (seconds_of None (Some 9) ≡ Some 9)
seconds = (refl, refl)

overs : (is_over false false false ≡ false) × (is_over false false true ≡ true)
overs = (refl, refl)

stillborn : (is_stillborn (Some RecordEnd) 0 ≡ true) × ((is_stillborn (Some RecordEnd) 1 ≡ false) × (is_stillborn None 0 ≡ false))
stillborn = (refl, (refl, refl))

record_ends : life_end Over (Some Refused) ≡ Err RecordEnd
record_ends = refl

-- A device with the incarnations 1 to 127 and the ids 100 to 149. Where a life has left 20 of them, the next one has these; where
-- it has left all, the next one has all but the first. The same ones again are left as few as they were.
names : (incarnation first count left : ℕ) → LifeNames
names incarnation first count left = record { incarnation = incarnation; ids = record { first = first; count = count }; left = left }

next_lives : (next_names (record { first = 1; last = 127 }) (names 5 100 50 50) (Restart false) 20 ≡ Some (names 6 130 20 20))
    × ((next_names (record { first = 1; last = 127 }) (names 127 100 50 50) (Restart false) 50 ≡ Some (names 1 101 49 49))
    × ((next_names (record { first = 1; last = 127 }) (names 5 100 50 50) (Restart true) 20 ≡ Some (names 5 100 50 20))
    × ((next_names (record { first = 1; last = 127 }) (names 5 100 50 20) (Restart false) 50 ≡ Some (names 6 130 20 20))
    × (next_names (record { first = 1; last = 127 }) (names 5 100 50 50) Over 50 ≡ None))))
unfolding names
next_lives = (refl, (refl, (refl, (refl, refl))))

paths : (path_in (Some (codes "/a")) (codes "b/c") ≡ codes "/a/b/c") × ((path_in (Some (codes "/a")) (codes "/b") ≡ codes "/b") × (path_in None (codes "b") ≡ codes "b"))
paths = (refl, (refl, refl))

starts : (place : StationPlace) → start_text false (record place { tcp = 44818; udp = 2222 })
    ≡ codes "adapter at " ++ (node_word place.address ++ (codes ", TCP " ++ (decimal 44818 ++ (codes ", UDP " ++ (decimal 2222 ++ codes ", ")))))
starts place = refl

lives : life_text 2 17 ≡ codes "life " ++ (decimal 2 ++ (codes ", incarnation " ++ (decimal 17 ++ codes "\n")))
lives = refl

-- the second and the fourth line; a line whose word only begins so is none, and a last line needs no LF
device_numbers : (device_lines (codes "# plant\ndevice a a.profile\ndevices b\n  device b b.profile") ≡ 2 ∷ 4 ∷ []) × (device_lines (codes "seconds 5\ndevice\n") ≡ [])
device_numbers = (refl, refl)

device_places : (device_line (2 ∷ 4 ∷ []) 1 ≡ 4) × (device_line (2 ∷ 4 ∷ []) 2 ≡ 0)
device_places = (refl, refl)
