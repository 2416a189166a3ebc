-- What was told of points to the reader of an output.
use Rattle.std.specs.Prelude.{ℕ, replicate, not, slice_get, slice_set, unwrap_or, is_some, bytes_eq, if◌then◌else◌, Bool, true, false, List, Option, Some, None}

-- of each point, at its place, the bytes of its line that was taken last, and the place of the point whose line found no room last
pub record Reported : Type 0 where
  pub reported : List (Option (List ℕ))
  pub refused : Option ℕ

-- nothing is told of so many points
abbrev pub unreported : ℕ → Reported
unreported count = record { reported = replicate count None; refused = None }

-- what was told of the point at a place, if there is one
abbrev pub reported_at : Reported → ℕ → Option (Option (List ℕ))
reported_at reported place = slice_get reported.reported place

-- a line with these bytes is due: nothing was reported, or other bytes
abbrev pub is_due : Option (Option (List ℕ)) → List ℕ → Bool
is_due None bytes = false
is_due (Some None) bytes = true
is_due (Some (Some reported)) bytes = not (bytes_eq reported bytes)

abbrev pub due_bytes : Reported → ℕ → List ℕ → Option (List ℕ)
due_bytes reported place bytes = if is_due (reported_at reported place) bytes then Some bytes else None

-- OFFERING

-- the point whose line is offered first: the one that found no room last
abbrev pub first_place : Reported → ℕ
first_place reported = unwrap_or reported.refused 0

abbrev pub begun : Reported → Reported
begun reported = record reported { refused = None }

-- the line with these bytes was taken
abbrev pub with_reported : ℕ → List ℕ → Reported → Reported
with_reported place bytes reported = record reported { reported = slice_set reported.reported place (Some bytes) }

-- it found no room, and stays due
abbrev pub with_refused : ℕ → Reported → Reported
with_refused place reported = record reported { refused = Some place }

-- a line was offered, and was taken or not
abbrev pub answered : ℕ → List ℕ → Bool → Reported → Reported
answered place bytes true reported = with_reported place bytes reported
answered place bytes false reported = with_refused place reported

-- a line found no room when lines were offered last
abbrev pub is_behind : Reported → Bool
is_behind reported = is_some reported.refused
