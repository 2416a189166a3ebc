-- What the laws look at stays where some connections time out.
use Rattle.std.proofs.Common.{◌≡◌, ℕ, ◌+◌, Bool, true, false, cond, not, ◌&&◌, ◌||◌, List, [], ◌∷◌, filter, length, refl, ◌∙◌, ap, arith}
use Rattle.std.specs.List.{list_any}
use Rattle.cip_types.specs.declared.names.Triad.{Triad}
use Rattle.cip_types.specs.declared.names.ConnId.{ConnId}
use Rattle.cip_types.specs.declared.names.Ms.{Ms}
use Rattle.cip_types.specs.declared.ids.IdBlock.{IdBlock}
use Rattle.adapter_table.specs.Connections.{Row}
use Rattle.adapter_table.specs.declared.row.State.TheVariants.{TimedOut}
use Rattle.adapter_table.specs.Rows.{has_triad, drives, drivers}
use Rattle.adapter_table.specs.EachLemmas.{each_map}
use Rattle.adapter_table.specs.Ticks.{has_expired, expired_row, expired_rows}
use Rattle.adapter_table.specs.Sound.{TriadsDiffer, has_o_t_id, IdsDiffer, IsDrawn, IdsAreDrawn, Agree, AllAgree, GroupsAgree}

-- a connection that has timed out, or is as it was
abbrev faded : Bool → Row → Row
faded b row = cond b (record row { state = TimedOut }) row

same_triad_faded : (b : Bool) (row : Row) → (faded b row).triad ≡ row.triad
same_triad_faded true row = refl
same_triad_faded false row = refl

same_id_faded : (b : Bool) (row : Row) → (faded b row).o_t_id ≡ row.o_t_id
same_id_faded true row = refl
same_id_faded false row = refl

-- who drives an output still does, or has timed out
count_step : (expires drives_it : Bool) (row row' : Row) (left removed rows : List Row) → length left + length removed ≡ length rows → length (cond (not expires && drives_it) (row' ∷ left) left) + length (cond expires (cond drives_it (row ∷ removed) removed) removed) ≡ length (cond drives_it (row ∷ rows) rows)
count_step true true row row' left removed rows same = omega arith
count_step true false row row' left removed rows same = same
count_step false true row row' left removed rows same = omega arith
count_step false false row row' left removed rows same = same

drives_faded : (b : Bool) (place : ℕ) (row : Row) → drives place (faded b row) ≡ (not b && drives place row)
drives_faded true place row = refl
drives_faded false place row = refl

drivers_among : (b : Bool) (place : ℕ) (row : Row) (rows : List Row) → drivers place (cond b (row ∷ rows) rows) ≡ cond b (cond (drives place row) (row ∷ drivers place rows) (drivers place rows)) (drivers place rows)
drivers_among true place row rows = refl
drivers_among false place row rows = refl

-- the drivers of an output that are left, and those that time out
pub count_expired : (clock : Ms) (place : ℕ) (rows : List Row) → length (drivers place (expired_rows clock rows)) + length (drivers place (filter (has_expired clock) rows)) ≡ length (drivers place rows)
count_expired clock place [] = refl
count_expired clock place (row ∷ rows) =
    rw (drives_faded (has_expired clock row) place row, drivers_among (has_expired clock row) place row (filter (has_expired clock) rows))
    (count_step (has_expired clock row) (drives place row) row (expired_row clock row) (drivers place (expired_rows clock rows)) (drivers place (filter (has_expired clock) rows)) (drivers place rows) (count_expired clock place rows))

pub any_triad_expired : (clock : Ms) (triad : Triad) (rows : List Row) → list_any (has_triad triad) (expired_rows clock rows) ≡ list_any (has_triad triad) rows
any_triad_expired clock triad [] = refl
any_triad_expired clock triad (row ∷ rows) = rw (same_triad_faded (has_expired clock row) row) (ap (λ b. has_triad triad row || b) (any_triad_expired clock triad rows))

pub triads_expired : (clock : Ms) (rows : List Row) → TriadsDiffer rows → TriadsDiffer (expired_rows clock rows)
triads_expired clock [] differ = tt
triads_expired clock (row ∷ rows) differ = (rw (same_triad_faded (has_expired clock row) row) (any_triad_expired clock row.triad rows ∙ differ.0), triads_expired clock rows differ.1)

pub any_id_expired : (clock : Ms) (id : ConnId) (rows : List Row) → list_any (has_o_t_id id) (expired_rows clock rows) ≡ list_any (has_o_t_id id) rows
any_id_expired clock id [] = refl
any_id_expired clock id (row ∷ rows) = rw (same_id_faded (has_expired clock row) row) (ap (λ b. has_o_t_id id row || b) (any_id_expired clock id rows))

pub ids_expired : (clock : Ms) (rows : List Row) → IdsDiffer rows → IdsDiffer (expired_rows clock rows)
ids_expired clock [] differ = tt
ids_expired clock (row ∷ rows) differ = (rw (same_id_faded (has_expired clock row) row) (any_id_expired clock row.o_t_id rows ∙ differ.0), ids_expired clock rows differ.1)

row_drawn : (b : Bool) (ids : List IdBlock) (next_id : ℕ) (row : Row) → IsDrawn ids next_id row → IsDrawn ids next_id (faded b row)
row_drawn true ids next_id row is = record { id = is.id; begins = is.begins; below = is.below }
row_drawn false ids next_id row is = is

pub drawn_expired : (clock : Ms) (ids : List IdBlock) (next_id : ℕ) (rows : List Row) → IdsAreDrawn ids next_id rows → IdsAreDrawn ids next_id (expired_rows clock rows)
drawn_expired clock ids next_id rows drawn = each_map (IsDrawn ids next_id) (expired_row clock) (λ row. row_drawn (has_expired clock row) ids next_id row) rows drawn

agree_faded : (x y : Bool) (a b : Row) → Agree a b → Agree (faded x a) (faded y b)
agree_faded true y a b agree = λ here there. absurd cc
agree_faded false true a b agree = λ here there. absurd cc
agree_faded false false a b agree = agree

all_expired : (clock : Ms) (row : Row) (rows : List Row) → AllAgree row rows → AllAgree (expired_row clock row) (expired_rows clock rows)
all_expired clock row [] agree = tt
all_expired clock row (other ∷ rows) agree = (agree_faded (has_expired clock row) (has_expired clock other) row other agree.0, all_expired clock row rows agree.1)

pub groups_expired : (clock : Ms) (rows : List Row) → GroupsAgree rows → GroupsAgree (expired_rows clock rows)
groups_expired clock [] agree = tt
groups_expired clock (row ∷ rows) agree = (all_expired clock row rows agree.0, groups_expired clock rows agree.1)
