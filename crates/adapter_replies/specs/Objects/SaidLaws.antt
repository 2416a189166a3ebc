-- What is answered by the parts of a table is what the table answers.
use Rattle.std.proofs.Common.{◌≡◌, ℕ, ◌≤◌, ◌==◌, ◌&&◌, Bool, true, false, cond, nat_lt, List, [], drop, Option, Some, None, Ok, Err, is_some, length, refl, ap, ◌∙◌, arith, inl, inr, length-drop}
use Rattle.std.proofs.lemmas.Bool.{cases_lt}
use Rattle.std.proofs.lemmas.Bool.Decides.{nat_tests}
use Rattle.std.specs.Int.{w16, w32, w64}
use Rattle.std.specs.List.{list_any}
use Rattle.std.specs.Option.{option_map}
use Rattle.cip_types.specs.Parts.{number_in}
use Rattle.cip_types.specs.PartLaws.{fields_stand, fields_few}
use Rattle.cip_types.specs.Texts.{Tailed}
use Rattle.cip_encap.specs.declared.message.EncapFault.TheVariants as fault
use Rattle.cip_encap.specs.Message.{MessageFields, header_widths}
use Rattle.cip_encap.specs.Reading.{message_reading, found_reading, sized_reading}
use Rattle.cip_router.specs.declared.refusal.Status.TheVariants as status
use Rattle.list_identity.specs.declared.inquiry.Inquiry.{Inquiry}
use Rattle.list_identity.specs.Inquiries.{inquiry_answer, inquiry_in, inquiry_of, InquiryMessage, inquiry_message, inquiry_read}
use Rattle.adapter_table.specs.declared.counters.ManagerCounters.{ManagerCounters}
use Rattle.adapter_table.specs.declared.profile.Description.{Description}
use Rattle.adapter_table.specs.declared.profile.Profile.{Profile}
use Rattle.adapter_table.specs.declared.table.PointValue.{PointValue}
use Rattle.adapter_table.specs.declared.table.AdapterTable.{AdapterTable}
use Rattle.adapter_table.specs.Points.{bytes_at}
use Rattle.adapter_table.specs.Inquiries.{inquiry_reply, inquiry_reply_of}
use Rattle.adapter_table.specs.Objects.{ObjectAnswer, Instance, denied, io_state_of, is_owning, connection_count, status_word, assembly_found, assembly_beside, assembly_instance, class_instance, assembly_facts, assembly_count, is_heartbeat, in_two_bytes, largest_assembly, described_at, instance_at, alone_answer, object_said, instance_answer, reset_by, manager_instance}
use Rattle.assembly_set.specs.Assemblies.{Assemblies}
use Rattle.adapter_replies.specs.Objects.Said.{described_said, assembly_said, station_in, address_in}

-- the points of a table
abbrev pub points_of : AdapterTable → Assemblies
points_of t = record { profile = t.profile; values = t.values }

-- ---- the class decides

other_class : (t : AdapterTable) (class instance : ℕ) → (class == 0x04) ≡ false → (instance == 1 && class == 0x06) ≡ false → instance_at t class instance ≡ described_at t class instance t.profile.description
unfolding instance_at
other_class t class instance other unmanaged = rw (other, unmanaged) refl

-- a described device answers to a service of another object than an assembly
pub described_is : (t : AdapterTable) (d : Description) (service class instance : ℕ) (attribute : Option ℕ) (body : List ℕ) → t.profile.description ≡ Some d → (class == 0x04) ≡ false → (instance == 1 && class == 0x06) ≡ false → alone_answer t service class instance attribute body ≡ described_said (points_of t) (io_state_of t.rows) (connection_count t.rows t.messaging) t.counters.link d service class instance attribute body
unfolding alone_answer described_said status_word
described_is t d service class instance attribute body is other unmanaged =
    ap (object_said (list_any is_owning t.rows) service attribute body) (other_class t class instance other unmanaged ∙ ap (described_at t class instance) is)

-- a device without a description has no other object
pub undescribed_is : (t : AdapterTable) (service class instance : ℕ) (attribute : Option ℕ) (body : List ℕ) → t.profile.description ≡ None → (class == 0x04) ≡ false → (instance == 1 && class == 0x06) ≡ false → alone_answer t service class instance attribute body ≡ denied status.PathDestination
unfolding alone_answer
undescribed_is t service class instance attribute body is other unmanaged =
    ap (object_said (list_any is_owning t.rows) service attribute body) (other_class t class instance other unmanaged ∙ ap (described_at t class instance) is)

-- ---- an assembly resets nothing

never_resets : (b owned : Bool) (body : List ℕ) (otherwise : ObjectAnswer) → cond (b && false) (reset_by owned body) otherwise ≡ otherwise
never_resets true owned body otherwise = refl
never_resets false owned body otherwise = refl

-- who owns an output makes no difference to an instance that cannot be reset
unowned : (owned : Bool) (service : ℕ) (attribute : Option ℕ) (body : List ℕ) (o : Instance) → o.resets ≡ false → instance_answer owned service attribute body o ≡ instance_answer false service attribute body o
unowned owned service attribute body o none = rw none (rw (never_resets (service == 0x05) owned body (denied status.Service), never_resets (service == 0x05) false body (denied status.Service)) refl)

unreset : (c : ManagerCounters) (d : Option Description) → (manager_instance c d).resets ≡ false
unreset c None = refl
unreset c (Some d) = refl

-- the Connection Manager answers alike, whoever owns an output
pub manager_is : (t : AdapterTable) (service : ℕ) (attribute : Option ℕ) (body : List ℕ) → alone_answer t service 0x06 1 attribute body ≡ instance_answer false service attribute body (manager_instance t.counters.manager t.profile.description)
unfolding alone_answer instance_at
manager_is t service attribute body = unowned (list_any is_owning t.rows) service attribute body (manager_instance t.counters.manager t.profile.description) (unreset t.counters.manager t.profile.description)

-- the class of the assemblies
abbrev class_of : Profile → List PointValue → Instance
class_of profile values = class_instance 2 (in_two_bytes (largest_assembly profile values)) (assembly_count values) assembly_facts

beside_said : (owned : Bool) (service instance : ℕ) (attribute : Option ℕ) (body : List ℕ) (profile : Profile) (values : List PointValue) (d : Option Description) → object_said owned service attribute body (assembly_beside profile values instance d) ≡ object_said false service attribute body (assembly_beside profile values instance d)
beside_said owned service instance attribute body profile values None = refl
beside_said owned service instance attribute body profile values (Some d) = split (instance == 0) (is_heartbeat profile instance)
  where
    split : (b c : Bool) → object_said owned service attribute body (cond b (Some (class_of profile values)) (cond c (Some (assembly_instance true [])) None)) ≡ object_said false service attribute body (cond b (Some (class_of profile values)) (cond c (Some (assembly_instance true [])) None))
    split true c = unowned owned service attribute body (class_of profile values) refl
    split false true = unowned owned service attribute body (assembly_instance true []) refl
    split false false = refl

found_said : (owned : Bool) (service instance : ℕ) (attribute : Option ℕ) (body : List ℕ) (profile : Profile) (values : List PointValue) (found : Option (List ℕ)) → object_said owned service attribute body (assembly_found profile values instance found) ≡ object_said false service attribute body (assembly_found profile values instance found)
found_said owned service instance attribute body profile values None = beside_said owned service instance attribute body profile values profile.description
found_said owned service instance attribute body profile values (Some value) = unowned owned service attribute body (assembly_instance (is_some profile.description) value) refl

-- a device answers to a service of an assembly
pub assembly_is : (t : AdapterTable) (service instance : ℕ) (attribute : Option ℕ) (body : List ℕ) → alone_answer t service 0x04 instance attribute body ≡ assembly_said (points_of t) service instance attribute body
unfolding alone_answer instance_at assembly_said
assembly_is t service instance attribute body = found_said (list_any is_owning t.rows) service instance attribute body t.profile t.values (bytes_at t.values instance)

-- ---- inquiries

-- a described device answers an inquiry
pub inquired_is : (t : AdapterTable) (d : Description) (bytes : List ℕ) → t.profile.description ≡ Some d → inquiry_reply t bytes ≡ inquiry_answer bytes (station_in (points_of t) (io_state_of t.rows) d) (address_in (points_of t) d)
unfolding inquiry_reply status_word
inquired_is t d bytes is = ap (inquiry_reply_of t bytes) is

-- a device without a description answers none
pub uninquired_is : (t : AdapterTable) (bytes : List ℕ) → t.profile.description ≡ None → inquiry_reply t bytes ≡ None
unfolding inquiry_reply
uninquired_is t bytes is = ap (inquiry_reply_of t bytes) is

-- ---- an inquiry is a header alone

unbare : (m : MessageFields) (status options : Bool) (x : Option Inquiry) → option_map {U = InquiryMessage} (λ inquiry. (inquiry, m)) (cond (status && (options && false)) x None) ≡ None
unbare m true true x = refl
unbare m true false x = refl
unbare m false options x = refl

filled : (m : MessageFields) → (length m.payload == 0) ≡ false → inquiry_message m ≡ None
filled m more = rw more (unbare m (m.status == 0) (m.options == 0) (inquiry_of m.command))

sized : (len : ℕ) (m : MessageFields) → (length m.payload == 0) ≡ false → inquiry_read (sized_reading len m) ≡ None
sized len m more = split (nat_lt (length m.payload) len) (nat_lt len (length m.payload))
  where
    split : (short long : Bool) → inquiry_read (cond short (Err fault.Truncated) (cond long (Err fault.Trailing) (Ok m))) ≡ None
    split true long = refl
    split false true = refl
    split false false = filled m more

left_over : (bytes : List ℕ) → 24 ≤ length bytes → (length bytes == 24) ≡ false → (length (drop 24 bytes) == 0) ≡ false
left_over bytes many other = rw (length-drop 24 bytes) (grind (arith, nat_tests))

-- bytes of another length than a header's are no inquiry
pub no_inquiry : (bytes : List ℕ) → (length bytes == 24) ≡ false → inquiry_in bytes ≡ None
unfolding message_reading
no_inquiry bytes other =
    elim (cases_lt (length bytes) 24) [
      | inl few ↦ ap (λ (read : Option Tailed). inquiry_read (found_reading read)) (fields_few header_widths bytes few)
      | inr many ↦ ap (λ (read : Option Tailed). inquiry_read (found_reading read)) (fields_stand header_widths bytes many)
          ∙ sized (number_in w16 bytes 2) (record { command = number_in w16 bytes 0; session = number_in w32 bytes 4; status = number_in w32 bytes 8; context = number_in w64 bytes 12; options = number_in w32 bytes 20; payload = drop 24 bytes }) (left_over bytes many other)
    ]
