-- Connections that are written or go on in time stay within the limits of their adapter.
use Rattle.std.proofs.Common.{◌≡◌, ◌≤◌, ℕ, ◌+◌, ◌^◌, ◌==◌, Bool, true, false, cond, List, map, refl, arith}
use Rattle.cip_types.specs.declared.names.Ms.{Ms}
use Rattle.adapter_table.specs.Connections.{Row}
use Rattle.adapter_table.specs.declared.row.State.{State}
use Rattle.adapter_table.specs.declared.row.State.TheVariants.{Established, TimedOut}
use Rattle.adapter_table.specs.Rows.{written_state, written_row}
use Rattle.adapter_table.specs.Closing.{stays, staying}
use Rattle.adapter_table.specs.Productions.{due_of}
use Rattle.adapter_table.specs.Ticks.{has_expired, expired_row, expired_rows}
use Rattle.adapter_table.specs.Whole.{FitsRow, RowsFit}
use Rattle.adapter_table.specs.EachLemmas.{each_filter, each_map}

-- where the state alone is changed

pub fits_stated : (row : Row) (state : State) → due_of state ≤ 2 ^ 48 + 10000 → FitsRow row → FitsRow (record row { state = state })
fits_stated row state due fits = record { watchdog = fits.watchdog; o_t_api_ms = fits.o_t_api_ms; t_o_api_ms = fits.t_o_api_ms; due = due }

pub fits_chosen : (b : Bool) (row : Row) (state : State) → due_of state ≤ 2 ^ 48 + 10000 → FitsRow row → FitsRow (cond b (record row { state = state }) row)
fits_chosen true row state due fits = fits_stated row state due fits
fits_chosen false row state due fits = fits

due_written : (state : State) → due_of (written_state state) ≡ due_of state
due_written (Established production) = refl
due_written TimedOut = refl

pub fits_written : (point : ℕ) (row : Row) → FitsRow row → FitsRow (written_row point row)
fits_written point row fits =
    fits_chosen (row.produced == point) row (written_state row.state) (rw due_written fits.due) fits

pub fits_expired : (clock : Ms) (row : Row) → FitsRow row → FitsRow (expired_row clock row)
fits_expired clock row fits = fits_chosen (has_expired clock row) row TimedOut (omega arith) fits

pub written_rows_fit : (point : ℕ) (rows : List Row) → RowsFit rows → RowsFit (map (written_row point) rows)
written_rows_fit point rows fit = each_map FitsRow (written_row point) (fits_written point) rows fit

pub staying_rows_fit : (clock : Ms) (rows : List Row) → RowsFit rows → RowsFit (staying (expired_rows clock rows))
staying_rows_fit clock rows fit =
    let after = expired_rows clock rows in
    each_filter FitsRow (stays (expired_rows clock rows)) after (each_map FitsRow (expired_row clock) (fits_expired clock) rows fit)
