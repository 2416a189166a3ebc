-- A message of an open class 3 connection is served: it is repeated, or executed.
use Rattle.std.proofs.Common.{◌≡◌, ℕ, ◌+◌, ◌==◌, ◌&&◌, nat_lt, Bool, true, false, cond, List, length, find, Option, Some, None, Result, Ok, Err, refl, sym, ◌∙◌, ap, subst, eqb-true, eq-eqb}
use Rattle.base_lemmas.specs.Lists.{found_passes}
use Rattle.cip_encap.specs.declared.packet.ItemFault.{ItemFault}
use Rattle.cip_encap.specs.Connected.{ConnectedFields}
use Rattle.cip_events.specs.declared.event.Delivery.TheVariants.{WrongSize}
use Rattle.cip_events.specs.declared.event.Event.TheVariants as event
use Rattle.cip_router.specs.declared.command.Command.{Command}
use Rattle.cip_router.specs.declared.command.Command.TheVariants as command
use Rattle.cip_router.specs.Commands.{command_of}
use Rattle.cip_router.specs.Frames.{RequestHeader, FrameFields, without_header, wrong_length, whole}
use Rattle.messaging.specs.declared.class3.Class3Connection.{Class3Connection}
use Rattle.messaging.specs.Class3Connections.{has_class3_id, is_on_stream, is_class3, repeats_last}
use Rattle.adapter_table.specs.declared.table.AdapterTable.{AdapterTable}
use Rattle.adapter_table.specs.declared.table.Stream.{Stream}
use Rattle.adapter_table.specs.Encapsulation.{Handled, connected_items_for, undelivered, refusal, message_repeated, message_found, unit_replied, handled, framed, stream_answer, frame_of, frame, outside_session, frame_for}
use Rattle.adapter_table.specs.Inquiries.{inquiry_reply}
use Rattle.adapter_table.specs.MessagesSound.{IsCarried, IsInPlace}
use Rattle.adapter_table.specs.Requests.{Next}
use Rattle.adapter_table.specs.Step.{adapter_step}
use Rattle.adapter_table.specs.Streams.{is_stream, has_session}
use Rattle.adapter_table.specs.Whole.{IsWhole}
use Rattle.adapter_table.specs.declared.profile.Description.{Description}
use Rattle.message_laws.specs.Repetitions.{Message, message_read, message_of_command, message_of_frame, if_message}
use Rattle.message_laws.proofs.Found.{Found, each_found, found_with, registered, carrying}
use Rattle.message_laws.proofs.Requests.{answered_none}
use Rattle.message_laws.proofs.Steps.{over, new_message}

-- ---- the frame of a message

-- the bytes over the stream of this number are SendUnitData within its session, with these items
pub record Carries (described : Option Description) (number : ℕ) (bytes : List ℕ) (unit : ConnectedFields) : Type 0 where
  pub header : RequestHeader
  pub body : List ℕ
  pub reads : frame_for described bytes ≡ whole header body
  pub command : command_of header.command ≡ command.SendUnitData
  pub session : header.session ≡ number + 1
  pub items : connected_items_for described body ≡ Ok unit

-- a message of such bytes, which passes a test
pub record Bears (described : Option Description) (number : ℕ) (bytes : List ℕ) (test : Message → Bool) : Type 0 where
  pub unit : ConnectedFields
  pub carries : Carries described number bytes unit
  pub passes : test (over number unit) ≡ true

bears_read : (described : Option Description) (number : ℕ) (bytes : List ℕ) (test : Message → Bool) (header : RequestHeader) (body : List ℕ) (reading : Result ConnectedFields ItemFault) → frame_for described bytes ≡ whole header body → command_of header.command ≡ command.SendUnitData → header.session ≡ number + 1 → connected_items_for described body ≡ reading → if_message test (message_read number reading) ≡ true → Bears described number bytes test
bears_read described number bytes test header body (Err fault) reads is session items some = absurd (let x = some in cc)
bears_read described number bytes test header body (Ok unit) reads is session items some =
    record { unit = unit; carries = record { header = header; body = body; reads = reads; command = is; session = session; items = items }; passes = some }

bears_session : (described : Option Description) (s : Bool) (number : ℕ) (bytes : List ℕ) (test : Message → Bool) (header : RequestHeader) (body : List ℕ) → frame_for described bytes ≡ whole header body → command_of header.command ≡ command.SendUnitData → (header.session == number + 1) ≡ s → if_message test (cond s (message_read number (connected_items_for described body)) None) ≡ true → Bears described number bytes test
bears_session described true number bytes test header body reads is session some = bears_read described number bytes test header body (connected_items_for described body) reads is (eqb-true header.session (number + 1) session) refl some
bears_session described false number bytes test header body reads is session some = absurd (let x = some in cc)

bears_command : (described : Option Description) (number : ℕ) (bytes : List ℕ) (test : Message → Bool) (header : RequestHeader) (body : List ℕ) (kind : Command) → frame_for described bytes ≡ whole header body → command_of header.command ≡ kind → if_message test (message_of_command described number header.session body kind) ≡ true → Bears described number bytes test
bears_command described number bytes test header body command.SendUnitData reads is some = bears_session described (header.session == number + 1) number bytes test header body reads is refl some
bears_command described number bytes test header body command.Nop reads is some = absurd (let x = some in cc)
bears_command described number bytes test header body command.ListServices reads is some = absurd (let x = some in cc)
bears_command described number bytes test header body command.RegisterSession reads is some = absurd (let x = some in cc)
bears_command described number bytes test header body command.UnregisterSession reads is some = absurd (let x = some in cc)
bears_command described number bytes test header body command.SendRrData reads is some = absurd (let x = some in cc)
bears_command described number bytes test header body command.Other reads is some = absurd (let x = some in cc)

bears_fields : (described : Option Description) (number : ℕ) (bytes : List ℕ) (test : Message → Bool) (fields : FrameFields) → frame_for described bytes ≡ fields → if_message test (message_of_frame described number fields) ≡ true → Bears described number bytes test
bears_fields described number bytes test without_header reads some = absurd (let x = some in cc)
bears_fields described number bytes test (wrong_length header) reads some = absurd (let x = some in cc)
bears_fields described number bytes test (whole header body) reads some = bears_command described number bytes test header body (command_of header.command) reads refl some

pub bears : (described : Option Description) (number : ℕ) (bytes : List ℕ) (test : Message → Bool) → if_message test (message_of_frame described number (frame_for described bytes)) ≡ true → Bears described number bytes test
bears described number bytes test some = bears_fields described number bytes test (frame_for described bytes) refl some

-- ---- how the message is served

abbrev pub serving : AdapterTable → Class3Connection → ConnectedFields → Handled
serving t e unit = cond (repeats_last e unit.count) (message_repeated t e unit.count) (new_message t e unit)

-- the connection is open, and the message is its
pub record IsIts (t : AdapterTable) (number : ℕ) (unit : ConnectedFields) (e : Class3Connection) : Type 0 where
  pub found : Found e.o_t_id t.messaging.class3_connections e
  pub stream : e.stream ≡ number
  pub connection : unit.connection ≡ e.o_t_id.0
  pub fits : nat_lt e.o_t_size (2 + length unit.message) ≡ false

unit_serves : (t : AdapterTable) (number : ℕ) (unit : ConnectedFields) (e : Class3Connection) (s : Stream) → s.number ≡ number → IsIts t number unit e → unit_replied t s (Ok unit) ≡ serving t e unit
unit_serves t number unit e s same its =
    let by_id : Found (record { 0 = unit.connection }) t.messaging.class3_connections e = subst (λ (k : ℕ). find (λ (c : Class3Connection). c.o_t_id.0 == k) t.messaging.class3_connections ≡ Some e) (sym its.connection) its.found in
    let here : find (is_class3 s.number (record { 0 = unit.connection })) t.messaging.class3_connections ≡ Some e =
    found_with (record { 0 = unit.connection }) (is_on_stream s.number) t.messaging.class3_connections e by_id (eq-eqb e.stream s.number (its.stream ∙ sym same)) in
    ap (message_found t unit.count unit.message) here ∙ ap (λ (b : Bool). cond b (undelivered t WrongSize) (serving t e unit)) its.fits

both_true : (a b : Bool) → a ≡ true → b ≡ true → (a && b) ≡ true
both_true true b first second = second
both_true false b first second = absurd (let x = first in cc)

handled_serves : (t : AdapterTable) (number : ℕ) (bytes : List ℕ) (unit : ConnectedFields) (e : Class3Connection) (s : Stream) (carries : Carries t.profile.description number bytes unit) → s.number ≡ number → s.registered ≡ true → IsIts t number unit e → handled t s carries.header carries.body (command_of carries.header.command) ≡ serving t e unit
unfolding handled
handled_serves t number bytes unit e s carries same has its =
    let session : has_session s carries.header.session ≡ true = both_true s.registered (carries.header.session == s.number + 1) has (eq-eqb carries.header.session (s.number + 1) (carries.session ∙ ap (λ (n : ℕ). n + 1) (sym same))) in
    ap (handled t s carries.header carries.body) carries.command
    ∙ ap (λ (b : Bool). cond b (unit_replied t s (connected_items_for t.profile.description carries.body)) (refusal t (outside_session t.profile.description))) session
    ∙ ap (unit_replied t s) carries.items ∙ unit_serves t number unit e s same its

pub unit_message : (described : Option Description) (number : ℕ) (bytes : List ℕ) (unit : ConnectedFields) (carries : Carries described number bytes unit) → message_of_frame described number (frame_for described bytes) ≡ Some (over number unit)
unit_message described number bytes unit carries =
    ap (message_of_frame described number) carries.reads ∙ ap (message_of_command described number carries.header.session carries.body) carries.command
    ∙ ap (λ (b : Bool). cond b (message_read number (connected_items_for described carries.body)) None) (eq-eqb carries.header.session (number + 1) carries.session)
    ∙ ap (message_read number) carries.items

no_inquiry : (t : AdapterTable) (number : ℕ) (bytes : List ℕ) (unit : ConnectedFields) (reply : Option (List ℕ)) → Carries t.profile.description number bytes unit → inquiry_reply t bytes ≡ reply → reply ≡ None
no_inquiry t number bytes unit None carries is = refl
no_inquiry t number bytes unit (Some text) carries is =
    absurd (let never = sym (unit_message t.profile.description number bytes unit carries) ∙ answered_none t number bytes text is in cc)

fields_serve : (t : AdapterTable) (number : ℕ) (bytes : List ℕ) (unit : ConnectedFields) (e : Class3Connection) (s : Stream) (carries : Carries t.profile.description number bytes unit) → s.number ≡ number → s.registered ≡ true → IsIts t number unit e → stream_answer t s bytes (inquiry_reply t bytes) ≡ framed number carries.header (serving t e unit)
fields_serve t number bytes unit e s carries same has its =
    let quiet : inquiry_reply t bytes ≡ None = no_inquiry t number bytes unit (inquiry_reply t bytes) carries refl in
    rw (quiet, carries.reads, handled_serves t number bytes unit e s carries same has its, same) refl

pub serves : (t : AdapterTable) (number : ℕ) (bytes : List ℕ) (unit : ConnectedFields) (e : Class3Connection) (carries : Carries t.profile.description number bytes unit) → IsWhole t → IsIts t number unit e → adapter_step t (event.Frame number bytes) ≡ Ok (framed number carries.header (serving t e unit))
unfolding frame
serves t number bytes unit e carries kept its =
    let carried : IsCarried t.streams number = subst (IsCarried t.streams) its.stream (each_found (IsInPlace t.rows t.streams) (has_class3_id e.o_t_id) t.messaging.class3_connections e its.found kept.messages.class3_connections).stream in
    let there = carrying number t.streams carried in
    let has = registered number t.streams there.0 kept.sound.streams_differ carried there.1 in
    let same : there.0.number ≡ number = eqb-true there.0.number number (found_passes (is_stream number) t.streams there.0 there.1) in
    ap (frame_of t bytes) there.1 ∙ ap (λ (n : Next). Ok n) (fields_serve t number bytes unit e there.0 carries same has its)
