-- The connections that successful replies open, from their parts (Volume 1, chapter 3, Forward_Open service, successful response).
use Rattle.std.specs.Prelude.{ℕ, Bool, Option, Some, None, Result, Ok, Err}
use Rattle.cip_types.specs.declared.names.Mismatch.{Mismatch}
use Rattle.cip_types.specs.declared.names.Ms.{Ms}
use Rattle.cip_netparams.specs.Rate.{interval_ms, timeout}
use Rattle.cip_fwdopen.specs.declared.reply.Opened as made
use Rattle.cip_productions.specs.Productions.{first_production}
use Rattle.cip_productions.specs.Watchdog.{first_deadline}
use Rattle.conn_state.specs.declared.names.Link.{Link}
use Rattle.conn_state.specs.declared.names.Requested.{Requested}
use Rattle.conn_state.specs.Answers.{link_of}
use Rattle.scanner_table.specs.declared.profile.SlotConfig.{SlotConfig}
use Rattle.scanner_table.specs.declared.slot.SlotConnection.{SlotConnection}
use Rattle.scanner_table.specs.Productions.{producer_trigger, producer_inhibit}

-- the triad and ids of the connection that a successful reply opens, or the mismatch
abbrev pub link_or_why : Requested → made.Opened → Option Mismatch → Result Link Mismatch
link_or_why requested opened None = Ok (link_of requested opened)
link_or_why requested opened (Some why) = Err why

-- the connection that a successful reply opens, from its parts, at a scanner that is `tidy` or not
abbrev pub connection_of : Bool → Ms → SlotConfig → ℕ → ℕ → Link → made.Opened → SlotConnection
connection_of tidy clock config number opening link opened = record {
  opening = opening;
  link = link;
  o_t_api_ms = interval_ms opened.o_t_api_us;
  t_o_api_ms = interval_ms opened.t_o_api_us;
  watchdog = record { 0 = timeout config.mult (interval_ms opened.t_o_api_us) };
  last = None;
  deadline = first_deadline clock (timeout config.mult (interval_ms opened.t_o_api_us));
  production = first_production clock number config.target (producer_trigger tidy config.trigger) (producer_inhibit tidy config.inhibit);
}
