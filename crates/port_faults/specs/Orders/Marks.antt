-- Which streams of a port are open, and which are to be cut.
use Rattle.std.specs.Prelude.{◌≡◌, Bool, true, false, List, [], map, position, slice_set, None}
use Rattle.cip_events.specs.declared.arrival.Arrival.{Arrival}
use Rattle.cip_events.specs.declared.arrival.Arrival.TheVariants as arrival
use Rattle.udp_runner.specs.declared.output.Output.{Output}
use Rattle.udp_runner.specs.declared.output.Output.TheVariants as output
use Rattle.port_faults.specs.declared.orders.order.PortOrder.{PortOrder}
use Rattle.port_faults.specs.declared.orders.order.PortOrder.TheVariants as order
use Rattle.port_faults.specs.declared.orders.marks.StreamMark.{StreamMark}
use Rattle.port_faults.specs.declared.orders.marks.StreamMark.TheVariants.{Closed, Open, ToCut}

-- a stream is open from its beginning on, until it is cut
abbrev pub marks_after : Arrival → List StreamMark → List StreamMark
marks_after (arrival.Opened stream peer) marks = slice_set marks stream Open
marks_after (arrival.Cut stream) marks = slice_set marks stream Closed
marks_after other marks = marks

-- .. or until its device closes it
abbrev pub marks_behind : Output → List StreamMark → List StreamMark
marks_behind (output.Close stream) marks = slice_set marks stream Closed
marks_behind other marks = marks

-- a cut is for the streams that are open as it is ordered
abbrev pub cut_mark : StreamMark → StreamMark
cut_mark Closed = Closed
cut_mark Open = ToCut
cut_mark ToCut = ToCut

abbrev pub is_to_cut : StreamMark → Bool
is_to_cut ToCut = true
is_to_cut other = false

abbrev pub marks_ordered : PortOrder → List StreamMark → List StreamMark
marks_ordered order.Cut marks = map cut_mark marks
marks_ordered other marks = marks

-- no order is to be done: no datagram of one waits, and no stream is to be cut
abbrev pub AreNone : {A : Type 0} → List A → List StreamMark → Type 0
AreNone raw marks = (raw ≡ []) × (position is_to_cut marks ≡ None)
