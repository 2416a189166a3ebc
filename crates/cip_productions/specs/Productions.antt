-- The production of one producer: its sequence numbers and counts, its due times and its datagrams
-- (Volume 1, chapter 3, class 1 transport, production triggers and production inhibit time; Volume 2,
-- chapter 2, sequenced address item).
use Rattle.std.specs.Prelude.{ℕ, ◌+◌, ◌%◌, ◌^◌, ◌==◌, ◌&&◌, ◌||◌, nat_lt, nat_le, min, Bool, true, false, if◌then◌else◌, List, Option, Some, None}
use Rattle.cip_types.specs.declared.names.ConnId.{ConnId}
use Rattle.cip_types.specs.declared.names.Node.{Node}
use Rattle.cip_types.specs.declared.names.Ms.{Ms}
use Rattle.cip_netparams.specs.declared.Trigger.{Trigger}
use Rattle.cip_netparams.specs.declared.Trigger.TheVariants.{Cyclic, ChangeOfState}
use Rattle.cip_datagram.specs.Datagram.{DatagramFields, datagram_text}
use Rattle.cip_events.specs.declared.event.OutgoingDatagram.{OutgoingDatagram}
use Rattle.cip_productions.specs.declared.production.Production.{Production}
use Rattle.cip_productions.specs.declared.production.Producer.{Producer}

-- THE FIRST STATE OF A PRODUCER

-- the production that a new connection starts: its data are new, and it is due at once
abbrev pub first_production : Ms → ℕ → Node → Trigger → ℕ → Production
first_production clock producer address trigger inhibit = record {
  producer = producer;
  sequence = 1;
  count = 0;
  written = true;
  due = clock;
  address = address;
  trigger = trigger;
  inhibit = inhibit;
  last = None;
}

-- THE NEXT STATE OF A PRODUCER

-- the count of the next datagram, which rises with new data
abbrev pub next_count : Production → ℕ
next_count production = if production.written then (production.count + 1) % 2 ^ 16 else production.count

-- the next due time: a cyclic producer keeps its pace, unless it is late by a whole interval
abbrev pub due_again : Trigger → ℕ → ℕ → ℕ → ℕ
due_again Cyclic clock due api = if nat_lt clock (due + api) then due + api else clock + api
due_again ChangeOfState clock due api = clock + api

-- the producer after a production
abbrev pub produced : Ms → ℕ → Production → Production
produced clock api production = record production {
  sequence = (production.sequence + 1) % 2 ^ 32;
  count = next_count production;
  written = false;
  due = record { 0 = due_again production.trigger clock.0 production.due.0 api };
  last = Some clock;
}

-- the production is due
abbrev pub is_production_due : Ms → Production → Bool
is_production_due clock production = nat_le production.due.0 clock.0

-- CHANGES OF STATE

-- the production inhibit time is over
abbrev pub is_over : Option Ms → ℕ → Ms → Bool
is_over None inhibit clock = true
is_over (Some last) inhibit clock = nat_le (last.0 + inhibit) clock.0

-- the producer's production inhibit time is over, so that it may produce
abbrev pub is_free : Ms → Production → Bool
is_free clock production = is_over production.last production.inhibit clock

-- a producer of this trigger produces at changes of state too
abbrev pub is_on_change : Trigger → Bool
is_on_change Cyclic = false
is_on_change ChangeOfState = true

-- due at the end of the production inhibit time, and no later than before
abbrev pub sooner_due : Option Ms → ℕ → Ms → Ms
sooner_due None inhibit due = due
sooner_due (Some last) inhibit due = record { 0 = min due.0 (last.0 + inhibit) }

-- a producer within its production inhibit time is due at the end of it
abbrev pub deferred : Production → Production
deferred production = record production { due = sooner_due production.last production.inhibit production.due }

-- the producer produces at once at a change of state
abbrev pub is_produced_on_change : Ms → Production → Bool
is_produced_on_change clock production = is_on_change production.trigger && is_free clock production

-- a change-of-state producer after a change: it produces, or is due at the end of its production inhibit time
abbrev pub produced_or_deferred : Ms → ℕ → Production → Production
produced_or_deferred clock api production = if is_free clock production then produced clock api production else deferred production

-- the same by its trigger: a cyclic producer is unchanged
abbrev pub changed_by : Trigger → Ms → ℕ → Production → Production
changed_by Cyclic clock api production = production
changed_by ChangeOfState clock api production = produced_or_deferred clock api production

-- the producer after a change of its data, as by a write of its point
abbrev pub changed : Ms → ℕ → Production → Production
changed clock api production = changed_by production.trigger clock api production

-- DATAGRAMS

-- the datagram of a producer
abbrev pub production_datagram : ConnId → Production → List ℕ → DatagramFields
production_datagram id production input = record {
  connection = id.0;
  sequence = production.sequence;
  count = next_count production;
  payload = input;
}

-- one production: the number of the producer, the point that it sends, the destination address, the nodes that
-- consume it, and the datagram
pub record Produced : Type 0 where
  pub producer : ℕ
  pub point : ℕ
  pub address : Node
  pub nodes : List Node
  pub datagram : DatagramFields

-- the next production of a producer for these nodes, with the value of its point
abbrev pub produced_by : List Node → List ℕ → Producer → Produced
produced_by nodes input producer = record {
  producer = producer.production.producer;
  point = producer.point;
  address = producer.production.address;
  nodes = nodes;
  datagram = production_datagram producer.id producer.production input;
}

-- the bytes of a production
abbrev pub sent : Produced → OutgoingDatagram
sent production = record { address = production.address; nodes = production.nodes; bytes = datagram_text production.datagram }

-- SEVERAL PRODUCERS

-- two producers are the same
abbrev pub same_producer : Producer → Producer → Bool
same_producer producer other = producer.production.producer == other.production.producer

-- producers by their numbers
abbrev pub by_number : Producer → Producer → Bool
by_number producer other = nat_lt producer.production.producer other.production.producer

-- producers by their due times, and then by their numbers
abbrev pub by_due : Producer → Producer → Bool
by_due producer other =
    nat_lt producer.production.due.0 other.production.due.0
    || (producer.production.due.0 == other.production.due.0 && by_number producer other)
