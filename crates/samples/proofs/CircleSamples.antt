-- The half-circle condition: one schedule that keeps it, one that does not, and what happens without it.
use Rattle.std.proofs.Common.{◌≡◌, ℕ, Bool, false, List, [], ◌∷◌, ◌++◌, map, Some, Result, Ok, Err, refl, arith}
use Rattle.cip_events.specs.declared.event.Delivery.TheVariants.{Applied}
use Rattle.adapter_table.specs.Connections.{Row}
use Rattle.cip_tables.specs.declared.table.DeviceTable.{DeviceTable}
use Rattle.cip_tables.specs.declared.table.DeviceTable.TheVariants.{Adapter, Scanner}
use Rattle.segment_world.specs.declared.act.Act.TheVariants.{Deliver}
use Rattle.segment_world.specs.declared.act.ActFault.{ActFault}
use Rattle.device_laws.specs.Productions.{end_at, Production}
use Rattle.schedule_laws.specs.Chronicle.{Acceptance, Chronicle, chronicles}
use Rattle.schedule_laws.specs.Order.{AreNear, HalfCircle, KeepsHalfCircle}
use Rattle.samples.specs.Oracle.{is_in_order}
use Rattle.samples.specs.Schedules.{owned, played, observed, taken, writes, ticks}
use Rattle.samples.specs.Stories.{begins, twice_written}
use Rattle.samples.specs.Playing.{playing}

-- the first delivery has no condition; the next ones are one index from the one before
it_is_kept : KeepsHalfCircle owned twice_written
unfolding playing
it_is_kept = (
  tt,
  (
    tt,
    (
      tt,
      (
        tt,
        (
          tt,
          (
            tt,
            (
              tt,
              (
                tt,
                (
                  tt,
                  (
                    tt,
                    (
                      tt,
                      (
                        tt,
                        (
                          tt,
                          (
                            tt,
                            (
                              record { index = record { first = omega arith; second = omega arith }; new_data = λ accepted. record { first = omega arith; second = omega arith } },
                              (
                                tt,
                                (
                                  record { index = record { first = omega arith; second = omega arith }; new_data = λ accepted. record { first = omega arith; second = omega arith } },
                                  tt,
                                ),
                              ),
                            ),
                          ),
                        ),
                      ),
                    ),
                  ),
                ),
              ),
            ),
          ),
        ),
      ),
    ),
  ),
)

-- ---- without it

-- The adapter's connection last accepted the production of index 2^31 + 2, long after the first one, which was never delivered.
abbrev long_after : ℕ
long_after = 2147483650

abbrev late_row : Row → Row
late_row row = record row { last = Some (record { number = long_after; count = 2 }) }

abbrev late_table : DeviceTable → DeviceTable
late_table (Adapter t) = Adapter (record t { rows = map late_row t.rows })
late_table (Scanner t) = Scanner t

abbrev late_production : Production → Production
late_production p = record p { index = long_after; new_data = 2 }

abbrev late_acceptances : List Production → List Acceptance
late_acceptances [] = []
late_acceptances (p ∷ rest) = record { consumer = end_at 0 1; production = late_production p; delivery = Applied } ∷ []

abbrev late : Chronicle → Chronicle
late c = record c {
  accepted = late_acceptances c.produced;
  story = record { world = record c.story.world { tables = map late_table c.story.world.tables }; reported = c.story.reported };
}

abbrev later : Result Chronicle ActFault → Result Chronicle ActFault
later (Err fault) = Err fault
later (Ok c) = Ok (late c)

abbrev long_later : Result Chronicle ActFault
long_later = later (played owned (begins ++ writes 1 0 7 ∷ ticks 1 ∷ []))

far_apart : (accepts : Bool) (p last : Production) → p.index ≡ 1 → last.index ≡ long_after → AreNear accepts p last → ⊥
far_apart accepts p last one two near = let within = near.index.second in absurd (omega (arith, one, two, within))

-- the first production is then more than half of the circle behind
it_is_not_kept : HalfCircle long_later (Deliver 0 0 ∷ []) → ⊥
unfolding playing
it_is_not_kept kept = far_apart _ _ _ refl refl kept.0

-- its number looks newer, and the adapter accepts it
an_old_one_looks_new : observed (λ c. map taken c.accepted) (chronicles long_later (Deliver 0 0 ∷ []))
    ≡ Some ((1, 1, 1, 1, Applied) ∷ (1, 1, 1, 2147483650, Applied) ∷ [])
unfolding playing
an_old_one_looks_new = refl

out_of_order : observed is_in_order (chronicles long_later (Deliver 0 0 ∷ [])) ≡ Some false
unfolding playing
out_of_order = refl
