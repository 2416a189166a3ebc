-- Each law of order refuses a chronicle that was bent against it.
use Rattle.std.proofs.Common.{◌≡◌, ◌+◌, ◌==◌, Bool, true, false, cond, ℕ, inl, inr, List, [], ◌∷◌, map, Some, refl, sym, subst, ◌∙◌, arith}
use Rattle.cip_fwdopen.specs.Open.{OpenFields}
use Rattle.adapter_table.specs.declared.table.PointValue.{PointValue}
use Rattle.adapter_table.specs.Checks.{is_multicast}
use Rattle.cip_tables.specs.declared.table.DeviceTable.{DeviceTable}
use Rattle.cip_tables.specs.declared.table.DeviceTable.TheVariants.{Adapter, Scanner}
use Rattle.std.specs.List.{list_any}
use Rattle.cip_types.specs.IdLaws.{has_id, ids_are_theirs}
use Rattle.device_laws.specs.OwnIds.{AsksOwnId}
use Rattle.device_laws.specs.Productions.{AreInOrder, end_at, Production}
use Rattle.schedule_laws.specs.Chronicle.{Acceptance, Chronicle}
use Rattle.schedule_laws.specs.Order.{AreNear, Rise}
use Rattle.schedule_laws.specs.Outputs.{AdaptersAccept, OutputsHold}
use Rattle.samples.specs.Oracle.{rises}
use Rattle.samples.specs.Schedules.{blocks_of, observed, owned, owner, played, scanner}
use Rattle.samples.specs.Tests.{are_named, are_numbered, outputs_hold}
use Rattle.samples.specs.Stories.{twice_written}
use Rattle.samples.specs.Playing.{playing}
use Rattle.samples.proofs.Passing.{LawAt, refuses}
use Rattle.samples.proofs.Testing.{accept_passes, hold_passes, order_passes, rise_passes}

-- ---- indexes

abbrev RisesIn : Chronicle → Type 0
RisesIn c = Rise c.accepted

abbrev rises_in : Chronicle → Bool
rises_in c = rises c.accepted

-- the newest was accepted twice
abbrev repeated : List Acceptance → List Acceptance
repeated [] = []
repeated (a ∷ rest) = a ∷ a ∷ rest

abbrev accepted_twice : Chronicle → Chronicle
accepted_twice c = record c { accepted = repeated c.accepted }

twice_fails : observed (λ c. rises_in (accepted_twice c)) (played owned twice_written) ≡ Some false
unfolding playing
twice_fails = refl

equal_indexes_are_refused : LawAt RisesIn accepted_twice (played owned twice_written) → ⊥
equal_indexes_are_refused law = refuses RisesIn rises_in (λ c is. rise_passes c.accepted is) accepted_twice (played owned twice_written) twice_fails law

-- ---- whose data an adapter accepts

abbrev made_elsewhere : Acceptance → Acceptance
made_elsewhere a = record a { production = record a.production { producer = end_at 1 9 } }

abbrev accepted_elsewhere : Chronicle → Chronicle
accepted_elsewhere c = record c { accepted = map made_elsewhere c.accepted }

elsewhere_fails : observed (λ c. are_named (accepted_elsewhere c)) (played owned twice_written) ≡ Some false
unfolding playing
elsewhere_fails = refl

another_opening_is_refused : LawAt AdaptersAccept accepted_elsewhere (played owned twice_written) → ⊥
another_opening_is_refused law = refuses AdaptersAccept are_named accept_passes accepted_elsewhere (played owned twice_written) elsewhere_fails law

-- the slot was idle, and its data were applied all the same
abbrev made_idle : Acceptance → Acceptance
made_idle a = record a { production = record a.production { made = record a.production.made { run = false } } }

abbrev applied_idle : Chronicle → Chronicle
applied_idle c = record c { accepted = map made_idle c.accepted }

idle_fails : observed (λ c. are_named (applied_idle c)) (played owned twice_written) ≡ Some false
unfolding playing
idle_fails = refl

idle_data_are_refused : LawAt AdaptersAccept applied_idle (played owned twice_written) → ⊥
idle_data_are_refused law = refuses AdaptersAccept are_named accept_passes applied_idle (played owned twice_written) idle_fails law

-- ---- what an output holds after a duplicate

abbrev older_value : PointValue → PointValue
older_value value = record value { bytes = 7 ∷ 7 ∷ 7 ∷ 7 ∷ [] }

abbrev older_table : DeviceTable → DeviceTable
older_table (Adapter t) = Adapter (record t { values = map older_value t.values })
older_table (Scanner t) = Scanner t

-- the newest that was accepted is a duplicate of 8, and the output holds 7
abbrev older : Chronicle → Chronicle
older c = record c { story = record { world = record c.story.world { tables = map older_table c.story.world.tables }; reported = c.story.reported } }

older_fails : observed (λ c. outputs_hold 0 (older c)) (played owned twice_written) ≡ Some false
unfolding playing
older_fails = refl

an_older_value_is_refused : LawAt OutputsHold older (played owned twice_written) → ⊥
an_older_value_is_refused law = refuses OutputsHold (outputs_hold 0) (hold_passes 0) older (played owned twice_written) older_fails law

-- ---- the half-circle condition, at its bounds

-- productions whose indexes differ by one less than half of the circle are near, and those that differ by half of it are not
one_less_is_near : (p last : Production) → p.index ≡ 1 → last.index ≡ 2147483648 → AreNear false p last
one_less_is_near p last one two = record { index = record { first = omega (arith, one, two); second = omega (arith, one, two) }; new_data = λ no. absurd (let e = no in cc) }

half_is_not_near : (p last : Production) → p.index ≡ 1 → last.index ≡ 2147483649 → AreNear false p last → ⊥
half_is_not_near p last one two near = let within = near.index in absurd (omega (arith, one, two, within.second))

-- so are accepted ones by half of the circle of counts
new_data_are_near : (p last : Production) → p.index ≡ 1 → last.index ≡ 1 → p.new_data ≡ 1 → last.new_data ≡ 32768 → AreNear true p last
new_data_are_near p last at there one two = record {
  index = record { first = omega (arith, at, there); second = omega (arith, at, there) };
  new_data = λ accepted. record { first = omega (arith, one, two); second = omega (arith, one, two) };
}

new_data_are_not_near : (p last : Production) → p.new_data ≡ 1 → last.new_data ≡ 32769 → AreNear true p last → ⊥
new_data_are_not_near p last one two near = let within = near.new_data refl in absurd (omega (arith, one, two, within.second))

-- ---- productions

abbrev OrderIn : Chronicle → Type 0
OrderIn c = AreInOrder c.produced

-- each index is one too many
abbrev later_index : Production → Production
later_index p = record p { index = p.index + 1 }

abbrev miscounted : Chronicle → Chronicle
miscounted c = record c { produced = map later_index c.produced }

miscounted_fails : observed (λ c. are_numbered (miscounted c)) (played owned twice_written) ≡ Some false
unfolding playing
miscounted_fails = refl

another_index_is_refused : LawAt OrderIn miscounted (played owned twice_written) → ⊥
another_index_is_refused law = refuses OrderIn are_numbered order_passes miscounted (played owned twice_written) miscounted_fails law

-- the third production repeats the second, without its data
abbrev without_data : Production → Production
without_data p = record p { made = record p.made { datagram = record p.made.datagram { payload = [] } } }

abbrev third_empty : Production → Production
third_empty p = cond (p.index == 3) (without_data p) p

abbrev repeated_empty : Chronicle → Chronicle
repeated_empty c = record c { produced = map third_empty c.produced }

empty_fails : observed (λ c. are_numbered (repeated_empty c)) (played owned twice_written) ≡ Some false
unfolding playing
empty_fails = refl

other_data_are_refused : LawAt OrderIn repeated_empty (played owned twice_written) → ⊥
other_data_are_refused law = refuses OrderIn are_numbered order_passes repeated_empty (played owned twice_written) empty_fails law

-- ---- the id that a scanner asks for

-- an id of another incarnation is none of the scanner's blocks
another_id_is_refused : (request : OpenFields) → is_multicast request.t_o_params.kind ≡ false → request.t_o_id.0 ≡ 0x30000001 → AsksOwnId (blocks_of (scanner owner)) request → ⊥
another_id_is_refused request single id (inl many) = absurd (let e = sym single ∙ many in cc)
another_id_is_refused request single id (inr own) =
    let ends = own.ends in
    let there : list_any (has_id 0x30000001) (blocks_of (scanner owner)) ≡ true =
    subst (λ (n : ℕ). list_any (has_id n) (blocks_of (scanner owner)) ≡ true) (sym own.is ∙ id) (ids_are_theirs (blocks_of (scanner owner)) own.number own.begins (omega (arith, ends))) in
    absurd cc
