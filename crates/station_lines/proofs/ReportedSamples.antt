-- What was told of points, worked by hand.
use Rattle.std.proofs.Common.{◌≡◌, true, false, [], ◌∷◌, Some, None, refl}
use Rattle.station_lines.specs.Reported.{Reported, answered, due_bytes, first_place, is_behind, unreported}

-- two points of a byte: each line is due at first, then the one that found no room, with the newest byte
abbrev first_reported : Reported
first_reported = answered 1 (8 ∷ []) false (answered 0 (7 ∷ []) true (unreported 2))

due_at_first : due_bytes (unreported 2) 1 (0 ∷ []) ≡ Some (0 ∷ [])
due_at_first = refl

not_due_once_taken : due_bytes first_reported 0 (7 ∷ []) ≡ None
not_due_once_taken = refl

due_after_a_change : due_bytes first_reported 0 (9 ∷ []) ≡ Some (9 ∷ [])
due_after_a_change = refl

still_due_without_room : due_bytes first_reported 1 (8 ∷ []) ≡ Some (8 ∷ [])
still_due_without_room = refl

newest_is_due : due_bytes first_reported 1 (9 ∷ []) ≡ Some (9 ∷ [])
newest_is_due = refl

refused_one_is_first : first_place first_reported ≡ 1
refused_one_is_first = refl

behind_while_one_waits : is_behind first_reported ≡ true
behind_while_one_waits = refl

no_third_point : due_bytes first_reported 2 (1 ∷ []) ≡ None
no_third_point = refl
