-- The program's attributes, instances and answers, as the definitions see them.
use Rattle.std.specs.Prelude.{ℕ, Bool, true, false, List, [], ◌∷◌, ◌++◌, flat_map, map}
use Rattle.adapter_table.specs.Objects as objects
use Rattle.adapter_table.specs.Counters.{interface_counters, media_counters}
use Rattle.adapter_table.specs.Objects.{u16, u32, link_capability, link_control, link_path, no_conflict, no_safety_number, node_segment, numbers, object_list}
use Rattle.adapter_table.specs.Carrying as carrying
use Rattle.adapter_table.specs.Own as own
use Rattle.adapter_table.specs.declared.profile.Description.{Description}
use Rattle.adapter_table.specs.declared.objects.IoState.{IoState}
use Rattle.assembly_set.specs.Assemblies.{Assemblies}
use Rattle.adapter_replies.specs.Objects.Said.{described_said, assembly_said}
use Rattle.adapter_replies.specs.declared.objects.value.Value.{Value}
use Rattle.adapter_replies.specs.declared.objects.value.Value.TheVariants as value
use Rattle.adapter_replies.specs.declared.objects.value.Zeros.{Zeros}
use Rattle.adapter_replies.specs.declared.objects.value.Zeros.TheVariants as zeros
use Rattle.adapter_replies.specs.declared.objects.value.Attribute.{Attribute}
use Rattle.adapter_replies.specs.declared.objects.value.Attribute.TheVariants as attribute
use Rattle.adapter_replies.specs.declared.objects.classes.ClassFacts.{ClassFacts}
use Rattle.adapter_replies.specs.declared.objects.instance.Instance.{Instance}
use Rattle.adapter_replies.specs.declared.objects.answer.Bytes.{Bytes}
use Rattle.adapter_replies.specs.declared.objects.answer.Bytes.TheVariants as bytes
use Rattle.adapter_replies.specs.declared.objects.answer.ObjectRequest.{ObjectRequest}
use Rattle.adapter_replies.specs.declared.objects.answer.ObjectAnswer.{ObjectAnswer}
use Rattle.adapter_replies.specs.declared.objects.answer.ObjectAnswer.TheVariants as answer
use Rattle.adapter_replies.specs.declared.objects.carriers.Carried.{Carried}
use Rattle.adapter_replies.specs.declared.objects.carriers.Carried.TheVariants as carried
use Rattle.adapter_replies.specs.declared.objects.own.OwnRequest.{OwnRequest}

abbrev pub view_zeros : Zeros → List ℕ
view_zeros zeros.SafetyNumber = no_safety_number
view_zeros zeros.Conflict = no_conflict

-- the bytes of a value
abbrev pub view_value : Value → List ℕ
view_value (value.Byte byte) = byte ∷ []
view_value (value.Pair first second) = first ∷ second ∷ []
view_value (value.Word number) = u16 number
view_value (value.Long number) = u32 number
view_value (value.Low number) = u16 number
view_value (value.Zeros none) = view_zeros none
view_value (value.Lent lent) = lent.now
view_value (value.Counted count lent) = count ∷ lent.now
view_value value.LinkPath = link_path
view_value (value.Addresses node mask) = u32 node.0 ++ (u32 mask ++ (u32 0 ++ (u32 0 ++ (u32 0 ++ u16 0))))
view_value (value.Groups count first) = 0 ∷ 0 ∷ (u16 count ++ u32 first.0)
view_value (value.Capability speed flags) = link_capability speed flags
view_value (value.Control speed flags) = link_control speed flags
view_value (value.Interface link) = interface_counters link.now
view_value (value.Media link) = media_counters link.now
view_value (value.Segment node) = node_segment node.0
view_value (value.Numbers words) = numbers words.now
view_value (value.Objects count own) = u16 count ++ flat_map u16 (object_list own.now)

abbrev pub view_attribute : Attribute → objects.Attribute
view_attribute (attribute.Listed number value) = objects.listed number (view_value value)
view_attribute (attribute.Single number value) = objects.single number (view_value value)
view_attribute (attribute.Absent value) = objects.absent (view_value value)

-- what a class says of its instances
abbrev pub view_facts : ClassFacts → objects.ClassFacts
view_facts facts = record { attributes = facts.attributes.now; services = facts.services.now; largest = facts.largest }

abbrev pub view_instance : Instance → objects.Instance
view_instance o = record { attributes = map view_attribute o.attributes.now; gets_all = o.gets_all; sets = o.sets; resets = o.resets }

-- the bytes of an answer, wherever they lie in memory
abbrev pub view_bytes : Bytes → List ℕ
view_bytes (bytes.Lent lent) = lent.now
view_bytes (bytes.Made made) = made.items

abbrev pub view_answer : ObjectAnswer → objects.ObjectAnswer
view_answer (answer.Said service said) = objects.said service (view_bytes said)
view_answer (answer.Denied why) = objects.denied why
view_answer (answer.Resetting kind) = objects.resetting kind
view_answer (answer.Answering by general content) = objects.answering by general (view_bytes content)
view_answer (answer.Refusing named why) = objects.refusing named why
view_answer (answer.Unrouted words) = objects.unrouted words

-- the TCP/IP Interface object by its addresses, its multicast groups and its inactivity time-out
abbrev pub interface_by : (addresses groups : List ℕ) → (inactivity : ℕ) → objects.Instance
interface_by addresses groups inactivity = record {
  attributes =
      objects.listed 1 (u32 1) ∷ objects.listed 2 (u32 0) ∷ objects.listed 3 (u32 0) ∷ objects.listed 4 link_path
      ∷ objects.listed 5 addresses ∷ objects.listed 6 (u16 0) ∷ objects.absent no_safety_number ∷ objects.listed 8 (1 ∷ [])
      ∷ objects.listed 9 groups ∷ objects.listed 10 objects.is_not ∷ objects.listed 11 no_conflict ∷ objects.absent objects.is_not
      ∷ objects.listed 13 (u16 inactivity) ∷ [];
  gets_all = true;
  sets = true;
  resets = false;
}

-- a request that a service carries
abbrev pub view_carried : Carried → carrying.Carried
view_carried (carried.Barred service why) = carrying.barred service why
view_carried (carried.Asking class instance request) = carrying.asking request.service class instance request.attribute request.body.now

-- ---- what a request of the program asks

-- of an instance
abbrev pub requested : (owned : Bool) → ObjectRequest → objects.Instance → objects.ObjectAnswer
requested owned request o = objects.instance_answer owned request.service request.attribute request.body.now o

-- of a described device
abbrev pub described_requested : Assemblies → IoState → (connections : ℕ) → (link : List ℕ) → Description → (class instance : ℕ) → ObjectRequest → objects.ObjectAnswer
described_requested set io connections link d class instance request = described_said set io connections link d request.service class instance request.attribute request.body.now

-- of an assembly
abbrev pub assembly_requested : Assemblies → (instance : ℕ) → ObjectRequest → objects.ObjectAnswer
assembly_requested set instance request = assembly_said set request.service instance request.attribute request.body.now

-- a request to an object of the maker's own
abbrev pub view_own : OwnRequest → own.OwnRequest
view_own request = record {
  service = request.service;
  class = request.class;
  instance = request.instance;
  attribute = request.attribute;
  body = request.body.now;
}
