-- More fresh devices behind those of a world change no act that happens at its devices.
use Rattle.std.proofs.Common.{◌≡◌, ◌<◌, ℕ, ◌+◌, ◌==◌, ◌&&◌, not, nat_lt, Bool, true, false, List, [], ◌∷◌, ◌++◌, map, set, length, slice_get, Option, Some, None, Result, Ok, Err, IfOk, refl, sym, ◌∙◌, ap, subst, arith}
use Rattle.std.specs.List.{AllByRecursion}
use Rattle.std.specs.Option.{IfSome}
use Rattle.std.proofs.lemmas.Bool.{and_parts}
use Rattle.std.proofs.lemmas.Bool.Decides.{nat_tests}
use Rattle.std.proofs.lemmas.List.{get_or_append_left, length-append, length-set}
use Rattle.std.proofs.lemmas.Option.{slice_get_within}
use Rattle.cip_types.specs.declared.names.Node.{Node}
use Rattle.cip_events.specs.declared.event.Answer.{Answer}
use Rattle.cip_events.specs.declared.event.Event.{Event}
use Rattle.cip_events.specs.declared.event.Event.TheVariants.{Datagram}
use Rattle.cip_events.specs.declared.event.StepFault.{StepFault}
use Rattle.cip_tables.specs.declared.table.Config.{Config}
use Rattle.cip_tables.specs.declared.table.DeviceTable.{DeviceTable}
use Rattle.cip_tables.specs.Step.{DeviceNext, opening_table, step}
use Rattle.segment_world.specs.Transit.Log.{Sent}
use Rattle.segment_world.specs.declared.transit.direction.Direction.{Direction}
use Rattle.segment_world.specs.declared.transit.direction.Direction.TheVariants.{Forth, Back}
use Rattle.segment_world.specs.Transit.Streams.{QueueItem, Stream, side_of, receiver, sender, answered, taken_from, fresh_stream, cut_stream}
use Rattle.segment_world.specs.declared.act.Act.{Act}
use Rattle.segment_world.specs.declared.act.Act.TheVariants.{Local, Deliver, NextFrame, OpenStream, CutStream}
use Rattle.segment_world.specs.Configs.{node_of_config}
use Rattle.segment_world.specs.World.{World, ReportedEvent, Happened, node_at, sent_by, event_at_device, event_at_table, after_device_step, event_of_call, delivered, event_of_item, without_front, taken, taken_at, are_two, most_stream_numbers, opened_if, cut_if, cut_at, happens}
use Rattle.segment_world.specs.Lives.Stories.{with_later}
use Rattle.segment_world.proofs.Lists.{all_both, get_before, set_before}
use Rattle.segment_world.proofs.Ends.{AreEnds, ends_at, all_changed, answers_keep, taken_keeps}

-- each device has its address, and each stream two devices
pub record Stands (w : World) : Type 0 where
  pub addresses : length w.nodes ≡ length w.tables
  pub ends : AllByRecursion (AreEnds (length w.tables)) w.streams

-- the event is of one of so many devices
abbrev pub IsWithin : ℕ → ReportedEvent → Type 0
IsWithin count reported = reported.device < count

-- what happens in the extended world is this, extended; the world stands, and has as many devices as before
pub record Extends (later : List Config) (count : ℕ) (again : Happened) (done : Option ReportedEvent × World) : Type 0 where
  pub is : again ≡ Ok (done.0, with_later later done.1)
  pub stands : Stands done.1
  pub count_is : length done.1.tables ≡ count
  pub within : IfSome done.0 (IsWithin count)

-- AN EVENT OF A DEVICE

node_before : (later : List Config) (w : World) (device : ℕ) → device < length w.nodes → node_at (with_later later w) device ≡ node_at w device
node_before later w device lt = get_or_append_left w.nodes (map node_of_config later) (record { 0 = 0 }) device lt

-- the extended world after an event of the device, whose tables and address are these
abbrev sent_in : List Config → ℕ → Event → Answer → World → List DeviceTable → Node → Happened
sent_in later device event answer w tables node = Ok (
  Some (record { device = device; event = event; answer = answer }),
  record {
    nodes = w.nodes ++ map node_of_config later;
    tables = tables;
    sent = w.sent ++ map (sent_by node) answer.datagrams;
    streams = answered device answer w.streams;
  },
)

stepped : (later : List Config) (device : ℕ) (event : Event) (w : World) (t : DeviceTable) (said : Result DeviceNext StepFault) → Stands w → slice_get w.tables device ≡ Some t → step t event ≡ said → IfOk (after_device_step device event w said) (Extends later (length w.tables) (event_at_device device event (with_later later w)))
stepped later device event w t (Err fault) stands at is = tt
stepped later device event w t (Ok next) stands at is =
    let within : device < length w.tables = slice_get_within w.tables device t at in
    let named : device < length w.nodes = subst (λ (n : ℕ). device < n) (sym stands.addresses) within in
    record {
      is =
          ap (event_at_table device event (with_later later w)) (get_before w.tables (map opening_table later) device t at)
          ∙ ap (after_device_step device event (with_later later w)) is
          ∙ ap (λ (tables : List DeviceTable). sent_in later device event next.0 w tables (node_at (with_later later w) device)) (set_before w.tables (map opening_table later) device t next.1 at)
          ∙ ap (λ (node : Node). sent_in later device event next.0 w (set w.tables device next.1 ++ map opening_table later) node) (node_before later w device named);
      stands = record {
        addresses = stands.addresses ∙ sym (length-set w.tables device next.1);
        ends = subst (λ (n : ℕ). AllByRecursion (AreEnds n) (answered device next.0 w.streams)) (sym (length-set w.tables device next.1)) (answers_keep (length w.tables) device next.0 w.streams stands.ends);
      };
      count_is = length-set w.tables device next.1;
      within = within;
    }

at_table : (later : List Config) (device : ℕ) (event : Event) (w : World) (found : Option DeviceTable) → Stands w → slice_get w.tables device ≡ found → IfOk (event_at_table device event w found) (Extends later (length w.tables) (event_at_device device event (with_later later w)))
at_table later device event w None stands at = tt
at_table later device event w (Some t) stands at = stepped later device event w t (step t event) stands at refl

event_extends : (later : List Config) (device : ℕ) (event : Event) (w : World) → Stands w → IfOk (event_at_device device event w) (Extends later (length w.tables) (event_at_device device event (with_later later w)))
event_extends later device event w stands = at_table later device event w (slice_get w.tables device) stands refl

-- ACTS

delivered_extends : (later : List Config) (device : ℕ) (w : World) (found : Option DeviceTable) (sent : Option Sent) → Stands w → slice_get w.tables device ≡ found → IfOk (delivered device w found sent) (Extends later (length w.tables) (delivered device (with_later later w) (slice_get (w.tables ++ map opening_table later) device) sent))
delivered_extends later device w None sent stands at = tt
delivered_extends later device w (Some t) None stands at = tt
delivered_extends later device w (Some t) (Some sent) stands at =
    subst (λ (o : Option DeviceTable). IfOk (event_at_device device (Datagram sent.from sent.bytes) w) (Extends later (length w.tables) (delivered device (with_later later w) o (Some sent))))
    (sym (get_before w.tables (map opening_table later) device t at))
    (event_extends later device (Datagram sent.from sent.bytes) w stands)

sender_within : (count : ℕ) (d : Direction) (s : Stream) → AreEnds count s → sender d s < count
sender_within count Forth s ends = ends.0
sender_within count Back s ends = ends.1

taken_extends : (later : List Config) (n : ℕ) (d : Direction) (w : World) (s : Stream) (queue : List QueueItem) → Stands w → AreEnds (length w.tables) s → IfOk (taken n d w s queue) (Extends later (length w.tables) (taken n d (with_later later w) s queue))
taken_extends later n d w s [] stands ends = tt
taken_extends later n d w s (item ∷ rest) stands ends =
    let named : sender d s < length w.nodes = subst (λ (k : ℕ). sender d s < k) (sym stands.addresses) (sender_within (length w.tables) d s ends) in
    subst (λ (peer : Node). IfOk (event_at_device (receiver d s) (event_of_item n (node_at w (sender d s)) item) (without_front n d w)) (Extends later (length w.tables) (event_at_device (receiver d s) (event_of_item n peer item) (without_front n d (with_later later w)))))
    (sym (node_before later w (sender d s) named))
    (event_extends later (receiver d s) (event_of_item n (node_at w (sender d s)) item) (without_front n d w) (record {
      addresses = stands.addresses;
      ends = all_changed (length w.tables) (taken_from d) (taken_keeps d) n w.streams stands.ends;
    }))

taken_at_extends : (later : List Config) (n : ℕ) (d : Direction) (w : World) (o : Option Stream) → Stands w → slice_get w.streams n ≡ o → IfOk (taken_at n d w o) (Extends later (length w.tables) (taken_at n d (with_later later w) o))
taken_at_extends later n d w None stands at = tt
taken_at_extends later n d w (Some s) stands at = taken_extends later n d w s (side_of d s).queue stands (ends_at (length w.tables) w.streams n s stands.ends at)

two_before : (from to count more : ℕ) → (nat_lt from count && nat_lt to count && not (from == to)) ≡ true → ((nat_lt from (count + more) && nat_lt to (count + more) && not (from == to)) ≡ true) × (from < count) × (to < count)
two_before from to count more two =
    let outer = and_parts (nat_lt from count && nat_lt to count) (not (from == to)) two in
    let inner = and_parts (nat_lt from count) (nat_lt to count) outer.0 in
    (both (nat_lt from (count + more)) (nat_lt to (count + more)) (not (from == to)) (wider from count more inner.0) (wider to count more inner.1) outer.1, below from count inner.0, below to count inner.1) where
      wider : (n count more : ℕ) → nat_lt n count ≡ true → nat_lt n (count + more) ≡ true
      wider n count more is = grind (arith, nat_tests)

      below : (n count : ℕ) → nat_lt n count ≡ true → n < count
      below n count is = grind (arith, nat_tests)

      both : (a b c : Bool) → a ≡ true → b ≡ true → c ≡ true → (a && b && c) ≡ true
      both a b c first second third = rw (first, second, third)

opened_extends : (later : List Config) (from to : ℕ) (w : World) (two numbered : Bool) → Stands w → are_two from to w ≡ two → IfOk (opened_if from to w two numbered) (Extends later (length w.tables) (opened_if from to (with_later later w) (are_two from to (with_later later w)) numbered))
opened_extends later from to w false numbered stands is = tt
opened_extends later from to w true false stands is = tt
opened_extends later from to w true true stands is =
    let longer : length (w.tables ++ map opening_table later) ≡ length w.tables + length (map opening_table later) = length-append w.tables (map opening_table later) in
    let two = two_before from to (length w.tables) (length (map opening_table later)) is in
    let again : are_two from to (with_later later w) ≡ true = subst (λ (n : ℕ). (nat_lt from n && nat_lt to n && not (from == to)) ≡ true) (sym longer) two.0 in
    record {
      is = ap (λ (b : Bool). opened_if from to (with_later later w) b true) again;
      stands = record {
        addresses = stands.addresses;
        ends = all_both (AreEnds (length w.tables)) w.streams (fresh_stream from to ∷ []) stands.ends ((two.1, two.2), tt);
      };
      count_is = refl;
      within = tt;
    }

cut_extends : (later : List Config) (n : ℕ) (w : World) (ended : Bool) → Stands w → IfOk (cut_if n w ended) (Extends later (length w.tables) (cut_if n (with_later later w) ended))
cut_extends later n w true stands = tt
cut_extends later n w false stands = record {
  is = refl;
  stands = record {
    addresses = stands.addresses;
    ends = all_changed (length w.tables) cut_stream (λ s. (refl, refl)) n w.streams stands.ends;
  };
  count_is = refl;
  within = tt;
}

cut_at_extends : (later : List Config) (n : ℕ) (w : World) (o : Option Stream) → Stands w → IfOk (cut_at n w o) (Extends later (length w.tables) (cut_at n (with_later later w) o))
cut_at_extends later n w None stands = tt
cut_at_extends later n w (Some s) stands = cut_extends later n w s.ended stands

pub act_extends : (later : List Config) (w : World) (act : Act) → Stands w → IfOk (happens w act) (Extends later (length w.tables) (happens (with_later later w) act))
act_extends later w (Local device call) stands = event_extends later device (event_of_call call) w stands
act_extends later w (Deliver index device) stands = delivered_extends later device w (slice_get w.tables device) (slice_get w.sent index) stands refl
act_extends later w (NextFrame stream direction) stands = taken_at_extends later stream direction w (slice_get w.streams stream) stands refl
act_extends later w (OpenStream from to) stands = opened_extends later from to w (are_two from to w) (nat_lt (length w.streams) most_stream_numbers) stands refl
act_extends later w (CutStream stream) stands = cut_at_extends later stream w (slice_get w.streams stream) stands
