-- Events that bring neither data nor time: requests and their answers, streams, further ids, and all that leave the table as it
-- is. What one open, one close and each change of a stream and of class 3 connections do, each such event does. Only a block of ids
-- changes the blocks of ids.
use Rattle.std.proofs.Common.{◌≡◌, ◌==◌, ℕ, Bool, true, false, length, List, Option, Some, None, Ok, refl, subst}
use Rattle.cip_types.specs.declared.names.Node.{Node}
use Rattle.cip_types.specs.declared.ids.IdBlock.{IdBlock}
use Rattle.cip_types.specs.Ids.{may_take}
use Rattle.cip_events.specs.Arrivals.{gives_ids}
use Rattle.cip_events.specs.declared.event.Event.{Event}
use Rattle.cip_events.specs.declared.event.Event.TheVariants.{Request, StreamOpened, Frame, StreamCut, Datagram, Inquiry, Write, Tick, Respond, Counters, Ids}
use Rattle.adapter_table.specs.declared.table.AdapterTable.{AdapterTable}
use Rattle.adapter_table.specs.Requests.{Next}
use Rattle.adapter_table.specs.Inquiries.{inquiry_reply, inquired_by, inquired}
use Rattle.adapter_table.specs.Streams.{is_taken, with_stream}
use Rattle.adapter_table.specs.declared.profile.Description.{Description}
use Rattle.adapter_table.specs.Counters.{link_len}
use Rattle.adapter_table.specs.Step.{adapter_step, counters_said, counters_with, taken_table}
use Rattle.adapter_table.specs.Lemmas.PassiveLemmas.{passive_is}
use Rattle.adapter_table.specs.Lemmas.RequestLemmas.{RequestsDo, LimitedDo, limited_do, requested_does, frame_does, respond_does, next_is, streamed_is, taken_is, cut_does}

-- the event brings data or time: a datagram, a write or a tick
abbrev pub brings_data : Event → Bool
brings_data (Datagram peer bytes) = true
brings_data (Write point bytes) = true
brings_data (Tick ms) = true
brings_data other = false

-- a new stream makes it too
abbrev pub StreamsDo : (AdapterTable → AdapterTable → Type 0) → Type 0
StreamsDo R = (t : AdapterTable) (number : ℕ) (peer : Node) → is_taken t.streams number ≡ false → R t (with_stream t number peer)

-- a further block of ids makes it too
abbrev pub IdsDo : (AdapterTable → AdapterTable → Type 0) → Type 0
IdsDo R = (t : AdapterTable) (block : IdBlock) → may_take t.ids block ≡ true → R t (taken_table t block)

inquired_does : (R : AdapterTable → AdapterTable → Type 0) → LimitedDo R → (t : AdapterTable) (peer : Node) (text : Option (List ℕ)) → R t (inquired_by t peer text).1
inquired_does R does t peer None = does.stays t
inquired_does R does t peer (Some text) = does.stays t

counters_by : (R : AdapterTable → AdapterTable → Type 0) → LimitedDo R → (t : AdapterTable) (bytes : List ℕ) (described : Option Description) (long : Bool) (next : Next) → counters_with t bytes described long ≡ Ok next → R t next.1
counters_by R does t bytes None long next is = absurd cc
counters_by R does t bytes (Some d) true next is = subst (λ (n : Next). R t n.1) (next_is _ _ is) (does.tallied t t (record t.counters { link = bytes }) (does.stays t))
counters_by R does t bytes (Some d) false next is = absurd cc

counters_does : (R : AdapterTable → AdapterTable → Type 0) → LimitedDo R → (t : AdapterTable) (bytes : List ℕ) (next : Next) → counters_said t bytes ≡ Ok next → R t next.1
unfolding counters_said
counters_does R does t bytes next is = counters_by R does t bytes t.profile.description (length bytes == link_len) next is

-- an event that gives no block of ids needs none
pub bare_control : (R : AdapterTable → AdapterTable → Type 0) → LimitedDo R → StreamsDo R → (t : AdapterTable) (event : Event) (next : Next) → brings_data event ≡ false → gives_ids event ≡ false → adapter_step t event ≡ Ok next → R t next.1
unfolding inquired
bare_control R does streams t (Request peer bytes) next none bare is = subst (λ (n : Next). R t n.1) (next_is _ _ is) (requested_does R does t peer bytes)
bare_control R does streams t (StreamOpened number peer) next none bare is =
    let streamed = streamed_is t number peer next is in
    subst (λ (n : Next). R t n.1) streamed.said (streams t number peer streamed.free)
bare_control R does streams t (Frame number bytes) next none bare is = frame_does R does t number bytes next is
bare_control R does streams t (StreamCut number) next none bare is = cut_does R does t number next is
bare_control R does streams t (Datagram peer bytes) next none bare is = absurd (let e = none in cc)
bare_control R does streams t (Inquiry peer bytes) next none bare is = subst (λ (n : Next). R t n.1) (next_is _ _ is) (inquired_does R does t peer (inquiry_reply t bytes))
bare_control R does streams t (Write point bytes) next none bare is = absurd (let e = none in cc)
bare_control R does streams t (Tick ms) next none bare is = absurd (let e = none in cc)
bare_control R does streams t (Respond number status bytes) next none bare is = respond_does R does t number status bytes next is
bare_control R does streams t (Counters bytes) next none bare is = counters_does R does t bytes next is
bare_control R does streams t (Ids block) next none bare is = absurd (let e = bare in cc)
bare_control R does streams t other next none bare is = subst (λ (n : Next). R t n.1) (passive_is t other next refl is).said (does.stays t)

pub limited_control : (R : AdapterTable → AdapterTable → Type 0) → LimitedDo R → StreamsDo R → IdsDo R → (t : AdapterTable) (event : Event) (next : Next) → brings_data event ≡ false → adapter_step t event ≡ Ok next → R t next.1
limited_control R does streams ids t (Ids block) next none is =
    let taken = taken_is t block next is in
    subst (λ (n : Next). R t n.1) taken.said (ids t block taken.may)
limited_control R does streams ids t other next none is = bare_control R does streams t other next none refl is

-- what every opening that is admitted does, one within the limits does
pub control_does : (R : AdapterTable → AdapterTable → Type 0) → RequestsDo R → StreamsDo R → (t : AdapterTable) (event : Event) (next : Next) → brings_data event ≡ false → adapter_step t event ≡ Ok next → R t next.1
control_does R does streams t event next none is = limited_control R (limited_do R does) streams does.taken t event next none is
