-- What an input of an adapter holds: what its application last wrote there (Volume 1, chapter 5, Assembly object).
use Rattle.std.specs.Prelude.{ℕ, ◌≡◌, ◌==◌, if◌then◌else◌, List, find, replicate, Option, Some, None, Ok}
use Rattle.cip_events.specs.declared.event.Event.{Event}
use Rattle.cip_events.specs.declared.event.Event.TheVariants.{Write}
use Rattle.adapter_table.specs.declared.profile.InputPoint.{InputPoint}
use Rattle.adapter_table.specs.declared.profile.Profile.{Profile}
use Rattle.adapter_table.specs.declared.table.AdapterTable.{AdapterTable}
use Rattle.adapter_table.specs.Points.{bytes_at}
use Rattle.adapter_table.specs.Profiles.{is_at, profile_fault}
use Rattle.adapter_table.specs.Requests.{Next}
use Rattle.adapter_table.specs.Scratch.{or_else}
use Rattle.adapter_table.specs.Step.{adapter_step, adapter_table}
use Rattle.adapter_table.specs.Whole.{IsWhole}

-- what an event writes at a point
abbrev pub written_at : ℕ → Event → Option (List ℕ)
written_at point (Write other bytes) = if other == point then Some bytes else None
written_at point other = None

-- after a step of a whole table each input holds what the event wrote there, and otherwise what it held
abbrev pub StepsWriteInputs : Type 0
StepsWriteInputs =
    (t : AdapterTable) (event : Event) (next : Next) → adapter_step t event ≡ Ok next → IsWhole t →
    (point : ℕ) (input : InputPoint) → find (is_at point) t.profile.inputs ≡ Some input →
    bytes_at next.1.values point ≡ or_else (written_at point event) (bytes_at t.values point)

-- each input of a fresh adapter holds zeros
abbrev pub FreshInputsAreZeros : Type 0
FreshInputsAreZeros =
    (profile : Profile) → profile_fault profile ≡ None → (point : ℕ) (input : InputPoint) → find (is_at point) profile.inputs ≡ Some input →
    bytes_at (adapter_table profile).values point ≡ Some (replicate input.len 0)
