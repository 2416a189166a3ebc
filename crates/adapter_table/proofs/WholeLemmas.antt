-- Connections stay within the limits of their adapter.
use Rattle.std.proofs.Common.{◌≡◌, ◌≤◌, ℕ, ◌+◌, ◌^◌, ◌==◌, nat_lt, nat_le, Bool, true, false, cond, not, List, length, Option, Some, None, Ok, refl, sym, ap, ◌∙◌, arith, leb-true}
use Rattle.std.specs.Prelude.{IsTrue}
use Rattle.std.specs.Option.{option_map}
use Rattle.std.proofs.lemmas.Bool.{not-false, and_parts, or_parts}
use Rattle.std.proofs.lemmas.Bool.Decides.{nat_tests}
use Rattle.cip_types.specs.Ids.{end_number}
use Rattle.cip_types.specs.declared.names.Node.{Node}
use Rattle.cip_types.specs.declared.names.Ms.{Ms}
use Rattle.cip_netparams.specs.declared.Trigger.{Trigger}
use Rattle.cip_netparams.specs.declared.Trigger.TheVariants.{Cyclic, ChangeOfState}
use Rattle.cip_netparams.specs.Rate.{is_interval, interval_ms}
use Rattle.cip_netparams.specs.Timeouts.{timeout_fits}
use Rattle.cip_datagram.specs.Datagram.{DatagramFields}
use Rattle.cip_fwdopen.specs.Open.{OpenFields}
use Rattle.adapter_table.specs.declared.profile.InputPoint.{InputPoint}
use Rattle.cip_productions.specs.declared.production.Production.{Production}
use Rattle.adapter_table.specs.Connections.{Row}
use Rattle.adapter_table.specs.declared.row.State.{State}
use Rattle.adapter_table.specs.declared.row.State.TheVariants.{Established, TimedOut}
use Rattle.adapter_table.specs.declared.table.AdapterTable.{AdapterTable}
use Rattle.adapter_table.specs.Rows.{is_member}
use Rattle.adapter_table.specs.Checks.{Admitted, admission, stored, is_known_config, named_len, has_other_length, group_of, joined}
use Rattle.adapter_table.specs.Opening.{opened_row, opened_state}
use Rattle.adapter_table.specs.Datagrams.{is_for, accepted_row, accepted_if_for}
use Rattle.adapter_table.specs.Productions.{due_of, produced_state, produced_row, changed_state, changed_row}
use Rattle.cip_productions.specs.Productions.{due_again, produced, is_free, sooner_due, deferred, changed_by}
use Rattle.adapter_table.specs.Shapes.{len_in}
use Rattle.adapter_table.specs.Whole.{FitsRow, RowsFit, IsWhole}
use Rattle.adapter_table.specs.Laws.{IsTimed}
use Rattle.adapter_table.specs.Lemmas.CheckLemmas.{admitted_is, draws_some}
use Rattle.adapter_table.specs.Lemmas.SoundLemmas.{drawn_later}
use Rattle.adapter_table.proofs.PlaceLemmas.{messages_later}
use Rattle.adapter_table.proofs.ProducerLemmas.{producers_later}
use Rattle.adapter_table.specs.RowLimits.{fits_stated, fits_chosen}
use Rattle.adapter_table.specs.EachLemmas.{each_found}

-- ---- a production goes on

-- a production is due again within its packet interval
again_step : (b : Bool) (clock due api : ℕ) → nat_lt clock (due + api) ≡ b → clock ≤ 2 ^ 48 → due ≤ clock → api ≤ 10000 → cond b (due + api) (clock + api) ≤ 2 ^ 48 + 10000
again_step true clock due api is time late short = omega arith
again_step false clock due api is time late short = omega arith

again_fits : (trigger : Trigger) (clock due api : ℕ) → clock ≤ 2 ^ 48 → due ≤ clock → api ≤ 10000 → due_again trigger clock due api ≤ 2 ^ 48 + 10000
again_fits Cyclic clock due api time late short = again_step (nat_lt clock (due + api)) clock due api refl time late short
again_fits ChangeOfState clock due api time late short = omega arith

due_step : (b : Bool) (clock : Ms) (api : ℕ) (production : Production) → nat_le production.due.0 clock.0 ≡ b → clock.0 ≤ 2 ^ 48 → api ≤ 10000 → production.due.0 ≤ 2 ^ 48 + 10000 → due_of (cond b (Established (produced clock api production)) (Established production)) ≤ 2 ^ 48 + 10000
due_step true clock api production is time short due = again_fits production.trigger clock.0 production.due.0 api time (leb-true _ _ is) short
due_step false clock api production is time short due = due

due_fits : (clock : Ms) (api : ℕ) (state : State) → clock.0 ≤ 2 ^ 48 → api ≤ 10000 → due_of state ≤ 2 ^ 48 + 10000 → due_of (produced_state clock api state) ≤ 2 ^ 48 + 10000
due_fits clock api (Established production) time short due = due_step (nat_le production.due.0 clock.0) clock api production refl time short due
due_fits clock api TimedOut time short due = due

pub fits_due : (clock : Ms) → clock.0 ≤ 2 ^ 48 → (row : Row) → FitsRow row → FitsRow (produced_row clock row)
fits_due clock time row fits = fits_stated row (produced_state clock row.t_o_api_ms row.state) (due_fits clock row.t_o_api_ms row.state time fits.t_o_api_ms fits.due) fits

sooner_fits : (last : Option Ms) (inhibit : ℕ) (due : Ms) → due.0 ≤ 2 ^ 48 + 10000 → (sooner_due last inhibit due).0 ≤ 2 ^ 48 + 10000
sooner_fits None inhibit due fits = fits
sooner_fits (Some last) inhibit due fits = omega arith

changed_step : (b : Bool) (clock : Ms) (api : ℕ) (production : Production) → production.trigger ≡ ChangeOfState → clock.0 ≤ 2 ^ 48 → api ≤ 10000 → production.due.0 ≤ 2 ^ 48 + 10000 → due_of (Established (cond b (produced clock api production) (deferred production))) ≤ 2 ^ 48 + 10000
changed_step true clock api production is time short due = rw is (omega arith)
changed_step false clock api production is time short due = sooner_fits production.last production.inhibit production.due due

changed_by_fits : (trigger : Trigger) (clock : Ms) (api : ℕ) (production : Production) → production.trigger ≡ trigger → clock.0 ≤ 2 ^ 48 → api ≤ 10000 → production.due.0 ≤ 2 ^ 48 + 10000 → (changed_by trigger clock api production).due.0 ≤ 2 ^ 48 + 10000
changed_by_fits Cyclic clock api production is time short due = due
changed_by_fits ChangeOfState clock api production is time short due = changed_step (is_free clock production) clock api production is time short due

changed_fits : (clock : Ms) (api : ℕ) (state : State) → clock.0 ≤ 2 ^ 48 → api ≤ 10000 → due_of state ≤ 2 ^ 48 + 10000 → due_of (changed_state clock api state) ≤ 2 ^ 48 + 10000
changed_fits clock api (Established production) time short due = changed_by_fits production.trigger clock api production refl time short due
changed_fits clock api TimedOut time short due = due

pub fits_changed : (clock : Ms) (point : ℕ) → clock.0 ≤ 2 ^ 48 → (row : Row) → FitsRow row → FitsRow (changed_row clock point row)
fits_changed clock point time row fits =
    fits_chosen (row.produced == point) row (changed_state clock row.t_o_api_ms row.state) (changed_fits clock row.t_o_api_ms row.state time fits.t_o_api_ms fits.due) fits

-- ---- a datagram is accepted

fed_step : (b : Bool) (clock : Ms) (d : DatagramFields) (row : Row) → FitsRow row → FitsRow (cond b (accepted_row clock d row) row)
fed_step true clock d row fits = record { watchdog = fits.watchdog; o_t_api_ms = fits.o_t_api_ms; t_o_api_ms = fits.t_o_api_ms; due = fits.due }
fed_step false clock d row fits = fits

pub fits_fed : (clock : Ms) (peer : Node) (d : DatagramFields) (row : Row) → FitsRow row → FitsRow (accepted_if_for clock peer d row)
fits_fed clock peer d row fits = fed_step (is_for peer d.connection row) clock d row fits

-- ---- a connection is opened

multiplier_fits : (m : ℕ) → nat_lt 7 m ≡ false → m ≤ 7
multiplier_fits m h = grind (arith, nat_tests)

pub interval_fits : (rpi : ℕ) → IsTrue (is_interval rpi) → interval_ms rpi ≤ 10000
interval_fits rpi is = grind (arith, nat_tests)

pub is_timed : (t : AdapterTable) (request : OpenFields) (admitted : Admitted) → admission t request ≡ Ok admitted → IsTimed t request admitted
is_timed t request admitted e =
    let is = admitted_is t request admitted e in
    let both = and_parts (is_interval request.o_t_rpi) (is_interval request.t_o_rpi) (not-false _ is.are_intervals) in
    let served = or_parts (nat_lt 7 request.multiplier) _ is.is_served in
    let few = multiplier_fits request.multiplier served.0 in
    let o_t = interval_fits request.o_t_rpi both.0 in
    let t_o = interval_fits request.t_o_rpi both.1 in
    record {
      multiplier = few;
      o_t_api_ms = rw is.o_t_api_ms o_t;
      t_o_api_ms = rw is.t_o_api_ms t_o;
      watchdog = rw is.watchdog (timeout_fits request.multiplier (interval_ms request.o_t_rpi) few o_t);
      left = is.ids_are_left;
      draws = draws_some admitted.multicast admitted.group;
    }

group_fits : (b : Bool) (rows : List Row) (point : ℕ) (member : Row) → cond b (group_of rows point) None ≡ Some member → RowsFit rows → due_of member.state ≤ 2 ^ 48 + 10000
group_fits true rows point member is fit = (each_found FitsRow (is_member point) rows member is fit).due
group_fits false rows point member is fit = absurd cc

due_opened : (t : AdapterTable) (peer : Node) (admitted : Admitted) (group : Option Row) → group ≡ joined admitted.multicast (group_of t.rows admitted.produced) → RowsFit t.rows → t.clock.0 ≤ 2 ^ 48 → due_of (opened_state t peer admitted group) ≤ 2 ^ 48 + 10000
due_opened t peer admitted None is fit time = omega arith
due_opened t peer admitted (Some member) is fit time = group_fits admitted.multicast t.rows admitted.produced member (sym is) fit

pub fits_opened : (t : AdapterTable) (peer : Node) (request : OpenFields) (admitted : Admitted) → admission t request ≡ Ok admitted → RowsFit t.rows → t.clock.0 ≤ 2 ^ 48 → FitsRow (opened_row t peer request admitted)
unfolding opened_row
fits_opened t peer request admitted e fit time =
    let is = admitted_is t request admitted e in
    let timed = is_timed t request admitted e in
    record {
      watchdog = timed.watchdog;
      o_t_api_ms = timed.o_t_api_ms;
      t_o_api_ms = timed.t_o_api_ms;
      due = due_opened t peer admitted admitted.group is.group_is fit time;
    }

segment_len : (len : ℕ) (segment : List ℕ) → not (length segment == len) ≡ false → length segment ≡ len
segment_len len segment h = grind (arith, nat_tests)

fits_config : (config : Option InputPoint) (named : Option ℕ) (segment : Option (List ℕ)) (bytes : List ℕ) → not (is_known_config config named) ≡ false → has_other_length (named_len config named) segment ≡ false → stored named segment ≡ Some bytes → option_map len_in config ≡ Some (length bytes)
fits_config config None segment bytes known fits is = absurd cc
fits_config None (Some named) segment bytes known fits is = absurd cc
fits_config (Some config) (Some named) None bytes known fits is = absurd cc
fits_config (Some config) (Some named) (Some segment) bytes known fits is =
    let same : segment ≡ bytes = cc in
    ap Some (sym (segment_len config.len segment fits) ∙ ap (length {A = ℕ}) same)

-- a segment that is stored is as long as the configuration
pub stored_fits : (t : AdapterTable) (request : OpenFields) (admitted : Admitted) → admission t request ≡ Ok admitted → (bytes : List ℕ) → admitted.segment ≡ Some bytes → option_map len_in t.profile.config ≡ Some (length bytes)
stored_fits t request admitted e bytes is =
    let passed = admitted_is t request admitted e in
    fits_config t.profile.config passed.config passed.segment bytes passed.config_is_known passed.segment_fits (sym passed.segment_is ∙ is)

-- ---- ids are passed over

pub whole_later : (t : AdapterTable) (counter : ℕ) → t.next_id ≤ counter → counter ≤ end_number t.ids → IsWhole t → IsWhole (record t { next_id = counter })
whole_later t counter later last whole =
    let sound = whole.sound in
    record {
      sound = record {
        few = sound.few;
        one_owner = sound.one_owner;
        triads_differ = sound.triads_differ;
        ids_differ = sound.ids_differ;
        blocks = sound.blocks;
        ids_begin = let begins = sound.ids_begin in omega (arith, begins, later);
        ids_are_drawn = drawn_later t.ids t.next_id counter t.rows later sound.ids_are_drawn;
        listeners_are_supported = sound.listeners_are_supported;
        groups_agree = sound.groups_agree;
        producers = producers_later t.ids t.next_id counter t.rows later sound.producers;
        ids_are_left = last;
        few_streams = sound.few_streams;
        streams_differ = sound.streams_differ;
      };
      messages = messages_later t counter later whole.messages;
      shaped = whole.shaped;
      consume = whole.consume;
      fits = whole.fits;
      clock = whole.clock;
    }
