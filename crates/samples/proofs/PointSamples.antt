-- Two slots own two outputs of one length. A story in which the outputs of their connections are exchanged is in order, and the
-- law of points refuses it.
use Rattle.std.proofs.Common.{◌≡◌, ℕ, ◌+◌, List, [], ◌∷◌, map, Option, Some, refl, true, false}
use Rattle.adapter_table.specs.declared.profile.InputPoint.{InputPoint}
use Rattle.cip_tables.specs.declared.table.DeviceTable.{DeviceTable}
use Rattle.cip_tables.specs.declared.table.DeviceTable.TheVariants.{Adapter, Scanner}
use Rattle.schedule_laws.specs.Chronicle.{Chronicle}
use Rattle.schedule_laws.specs.JoinedPoints.{ConnectionsJoinPoints}
use Rattle.samples.specs.Oracle.{is_in_order}
use Rattle.samples.specs.Schedules.{holds, observed, played}
use Rattle.samples.specs.Tests.{joins_points}
use Rattle.samples.specs.Twofold.{both_owned, both_written, crossed}
use Rattle.samples.specs.Playing.{playing}
use Rattle.samples.proofs.Passing.{LawAt, refuses}
use Rattle.samples.proofs.Testing.{join_passes}

-- what the two outputs of the adapter hold
abbrev held : Chronicle → List (Option (List ℕ))
held c = holds c 0 150 ∷ holds c 0 160 ∷ []

-- each output holds what its slot wrote, and each connection joins the points of its slot
each_output : observed held (played both_owned both_written) ≡ Some (Some (7 ∷ 7 ∷ 7 ∷ 7 ∷ []) ∷ Some (8 ∷ 8 ∷ 8 ∷ 8 ∷ []) ∷ [])
unfolding playing
each_output = refl

each_joins : observed (joins_points 1) (played both_owned both_written) ≡ Some true
unfolding playing
each_joins = refl

-- in the crossed story each output holds what the other slot wrote
crossed_output : observed (λ c. held (crossed c)) (played both_owned both_written) ≡ Some (Some (8 ∷ 8 ∷ 8 ∷ 8 ∷ []) ∷ Some (7 ∷ 7 ∷ 7 ∷ 7 ∷ []) ∷ [])
unfolding playing
crossed_output = refl

-- what is accepted is in order there, and each output holds the newest that its connection accepted
crossed_in_order : observed (λ c. is_in_order (crossed c)) (played both_owned both_written) ≡ Some true
unfolding playing
crossed_in_order = refl

crossed_joins_others : observed (λ c. joins_points 1 (crossed c)) (played both_owned both_written) ≡ Some false
unfolding playing
crossed_joins_others = refl

-- so the law of points refuses it
crossed_is_refused : LawAt ConnectionsJoinPoints crossed (played both_owned both_written) → ⊥
crossed_is_refused law = refuses ConnectionsJoinPoints (joins_points 1) (join_passes 1) crossed (played both_owned both_written) crossed_joins_others law

-- ---- lengths

abbrev longer : InputPoint → InputPoint
longer point = record point { len = point.len + 1 }

abbrev lengthened_table : DeviceTable → DeviceTable
lengthened_table (Adapter t) = Adapter (record t { profile = record t.profile { inputs = map longer t.profile.inputs } })
lengthened_table (Scanner t) = Scanner t

-- the adapter's inputs are longer than the slots'
abbrev lengthened : Chronicle → Chronicle
lengthened c = record c { story = record { world = record c.story.world { tables = map lengthened_table c.story.world.tables }; reported = c.story.reported } }

lengthened_fails : observed (λ c. joins_points 1 (lengthened c)) (played both_owned both_written) ≡ Some false
unfolding playing
lengthened_fails = refl

another_length_is_refused : LawAt ConnectionsJoinPoints lengthened (played both_owned both_written) → ⊥
another_length_is_refused law = refuses ConnectionsJoinPoints (joins_points 1) (join_passes 1) lengthened (played both_owned both_written) lengthened_fails law
