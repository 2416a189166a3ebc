-- What an object answers is short: at most 1,400 bytes.
use Rattle.std.proofs.Common.{◌≡◌, ◌≤◌, ◌+◌, ◌%◌, ℕ, zero, suc, ◌*◌, ◌==◌, ◌&&◌, not, Bool, true, false, cond, List, [], ◌∷◌, ◌++◌, length, filter, find, take, drop, Option, Some, None, is_some, refl, sym, ap, ◌∙◌, arith, length-append, replicate, ◌/◌, nat_lt, nat_le}
use Rattle.std.specs.List.{flat_map, list_any}
use Rattle.std.specs.Int.{byte_at}
use Rattle.std.proofs.lemmas.Bool.{eqb-true, not-false, and_parts}
use Rattle.std.proofs.lemmas.List.{length-take, length-drop}
use Rattle.std.proofs.lemmas.Bool.Decides.{nat_tests}
use Rattle.cip_types.specs.Cases.{Case, first_case}
use Rattle.cip_types.specs.declared.names.Identity.{Identity}
use Rattle.cip_productions.specs.declared.kind.Kind.{Kind}
use Rattle.cip_router.specs.declared.object_service.ObjectService.{ObjectService}
use Rattle.cip_router.specs.declared.object_service.ObjectService.TheVariants.{GetSingle, GetAll, GetList, Packet}
use Rattle.cip_router.specs.declared.refusal.Status.TheVariants as status
use Rattle.cip_router.specs.Requests.{router_request_reading}
use Rattle.adapter_table.specs.declared.counters.ManagerCounters.{ManagerCounters}
use Rattle.adapter_table.specs.declared.profile.Description.{Description}
use Rattle.adapter_table.specs.declared.profile.Profile.{Profile}
use Rattle.adapter_table.specs.declared.table.PointValue.{PointValue}
use Rattle.adapter_table.specs.declared.table.AdapterTable.{AdapterTable}
use Rattle.adapter_table.specs.Points.{bytes_at}
use Rattle.adapter_table.specs.Profiles.{profile_fault, profile_tests, is_described, fits_description, are_objects, are_own_classes}
use Rattle.adapter_table.specs.Counters.{interface_counters, interface_len, link_len, media_counters, media_len}
use Rattle.adapter_table.specs.Connections.{Row}
use Rattle.adapter_table.specs.Rows.{is_of_kind, kind_count}
use Rattle.adapter_table.specs.Shapes.{IsShaped}
use Rattle.adapter_table.specs.Whole.{IsWhole}
use Rattle.adapter_table.specs.Shaping.{all_pass}
use Rattle.adapter_table.specs.Limits.{bytes_short}
use Rattle.adapter_table.specs.Carrying.{Carried, barred, asking, carried, naming, inner_answer, routed_answer, sent_answer, is_sending, packet_answer, packet_replied, packet_data, packet_status, are_successes, are_placed, member_replies, most_members, is_packet, packed_answer, object_answer}
use Rattle.adapter_table.specs.Objects.{ObjectAnswer, said, denied, resetting, answering, refusing, unrouted, word_of, most_listed, list_status, answer_within, got_items, are_attributes, get_list, behind_value, value_len, set_items, set_reply, set_list, alone_answer, manager_instance, Attribute, Instance, ClassFacts, IdentityState, standing_of, u16, yielding_classes, is_other_class, decimal_byte, node_text, qos_class, qos_instance, port_instance, port_class_instance, is_owning, is_numbered, attribute_of, all_values, single_of, set_of, reset_of, reset_by, instance_answer, object_said, class_instance, identity_class, router_class, assembly_facts, manager_class, interface_class, link_class, identity_instance, router_instance, interface_instance, is_forced, link_behind, link_control, link_instance, assembly_instance, assembly_found, assembly_beside, assembly_at, in_two_bytes, largest_assembly, assembly_count, is_heartbeat, connection_count, described_cases, described_at, instance_at}

-- the answer has at most 1,400 bytes
abbrev pub FewSaid : ObjectAnswer → Type 0
FewSaid (said by value) = length value ≤ 1400
FewSaid (denied why) = Unit {0}
FewSaid (resetting kind) = Unit {0}
FewSaid (answering by general content) = length content ≤ 1400
FewSaid (refusing named why) = Unit {0}
FewSaid (unrouted words) = Unit {0}

-- ---- of an instance whose attributes are short

abbrev pub FewFound : Option Attribute → Type 0
FewFound None = Unit {0}
FewFound (Some attribute) = length attribute.value ≤ 1400

abbrev pub AllFew : List Attribute → Type 0
AllFew [] = Unit {0}
AllFew (attribute ∷ attributes) = (length attribute.value ≤ 1400) × AllFew attributes

-- each attribute is short, and so are all that are listed, one behind the other
pub record IsFew (o : Instance) : Type 0 where
  pub each : AllFew o.attributes
  pub together : length (all_values o.attributes) ≤ 1400

found_step : (b : Bool) (attribute : Attribute) (rest : Option Attribute) → length attribute.value ≤ 1400 → FewFound rest → FewFound (cond b (Some attribute) rest)
found_step true attribute rest few more = few
found_step false attribute rest few more = more

found_few : (number : ℕ) (attributes : List Attribute) → AllFew attributes → FewFound (find (is_numbered number) attributes)
found_few number [] few = tt
found_few number (attribute ∷ attributes) few = found_step (is_numbered number attribute) attribute (find (is_numbered number) attributes) few.0 (found_few number attributes few.1)

named_few : (attributes : List Attribute) (named : Option ℕ) → AllFew attributes → FewFound (attribute_of attributes named)
named_few attributes None few = tt
named_few attributes (Some number) few = found_few number attributes few

either : (b : Bool) (x y : ObjectAnswer) → FewSaid x → FewSaid y → FewSaid (cond b x y)
either true x y few more = few
either false x y few more = more

single_few : (body : List ℕ) (found : Option Attribute) → FewFound found → FewSaid (single_of body found)
single_few body None few = tt
single_few body (Some attribute) few = either (length body == 0) (said GetSingle attribute.value) (denied status.TooMuchData) few tt

set_few : (found : Option Attribute) → FewSaid (set_of found)
set_few None = tt
set_few (Some attribute) = tt

reset_of_few : (owned : Bool) (kind : ℕ) → FewSaid (reset_of owned kind)
reset_of_few owned kind = either (nat_lt 1 kind) (denied status.InvalidParameter) _ tt (either owned (denied status.StateConflict) (resetting kind) tt tt)

reset_few : (owned : Bool) (body : List ℕ) → FewSaid (reset_by owned body)
reset_few owned [] = reset_of_few owned 0
reset_few owned (kind ∷ []) = reset_of_few owned kind
reset_few owned (kind ∷ more ∷ rest) = tt

-- an answer that a reply has room for is short
within_few : (by : ObjectService) (general : ℕ) (content : List ℕ) → FewSaid (answer_within by general content)
within_few by general content = split (nat_le (length content) 1400) refl
  where
    split : (b : Bool) → nat_le (length content) 1400 ≡ b → FewSaid (cond b (answering by general content) (denied status.ReplyTooLarge))
    split true is = grind (arith, nat_tests)
    split false is = tt

get_list_few : (attributes : List Attribute) (body : List ℕ) → FewSaid (get_list attributes body)
get_list_few attributes [] = tt
get_list_few attributes (low ∷ []) = tt
get_list_few attributes (low ∷ high ∷ rest) =
    either (nat_lt (length rest) (2 * word_of low high)) (denied status.NotEnoughData) _ tt
    (either (nat_lt (2 * word_of low high) (length rest)) (denied status.TooMuchData) _ tt
    (either (nat_lt most_listed (word_of low high)) (denied status.ReplyTooLarge) _ tt
    (within_few GetList (list_status (are_attributes attributes rest)) (low ∷ high ∷ got_items attributes rest))))

-- the answered attributes have four bytes each
set_items_few : (attributes : List Attribute) (count : ℕ) (body : List ℕ) → length (set_items attributes count body) ≤ 4 * count
set_items_few attributes count [] = omega arith
set_items_few attributes count (low ∷ []) = omega arith
set_items_few attributes zero (low ∷ high ∷ rest) = omega arith
set_items_few attributes (suc count) (low ∷ high ∷ rest) =
    omega (arith, set_items_few attributes count (behind_value rest (value_len (find (is_numbered (word_of low high)) attributes))))

set_reply_few : (count : ℕ) (items : List ℕ) → nat_lt most_listed count ≡ false → length items ≤ 4 * count → FewSaid (set_reply items)
set_reply_few count items most few = let bound : count ≤ 349 = grind (arith, nat_tests) in omega (arith, bound, few)

set_list_few : (attributes : List Attribute) (body : List ℕ) → FewSaid (set_list attributes body)
set_list_few attributes [] = tt
set_list_few attributes (low ∷ []) = tt
set_list_few attributes (low ∷ high ∷ rest) = split (nat_lt most_listed (word_of low high)) (nat_lt (length rest) (2 * word_of low high)) refl
  where
    split : (large short : Bool) → nat_lt most_listed (word_of low high) ≡ large → FewSaid (cond short (denied status.NotEnoughData) (cond large (denied status.ReplyTooLarge) (set_reply (set_items attributes (word_of low high) rest))))
    split large true is = tt
    split true false is = tt
    split false false is = set_reply_few (word_of low high) (set_items attributes (word_of low high) rest) is (set_items_few attributes (word_of low high) rest)

-- a short instance has short answers
instance_few : (owned : Bool) (service : ℕ) (attribute : Option ℕ) (body : List ℕ) (o : Instance) → IsFew o → FewSaid (instance_answer owned service attribute body o)
instance_few owned service attribute body o few =
    either (service == 0x0E && not (length o.attributes == 0)) _ _ (single_few body (attribute_of o.attributes attribute) (named_few o.attributes attribute few.each))
    (either (service == 0x10 && o.sets) _ _ (set_few (attribute_of o.attributes attribute))
    (either (service == 0x01 && o.gets_all) _ _ (either (length body == 0) (said GetAll (all_values o.attributes)) (denied status.TooMuchData) few.together tt)
    (either (service == 0x03 && o.sets) _ _ (get_list_few o.attributes body)
    (either (service == 0x04 && o.sets) _ _ (set_list_few o.attributes body)
    (either (service == 0x05 && o.resets) _ _ (reset_few owned body) tt)))))

abbrev pub FewInstance : Option Instance → Type 0
FewInstance None = Unit {0}
FewInstance (Some o) = IsFew o

pub said_few : (owned : Bool) (service : ℕ) (attribute : Option ℕ) (body : List ℕ) (found : Option Instance) → FewInstance found → FewSaid (object_said owned service attribute body found)
said_few owned service attribute body None few = tt
said_few owned service attribute body (Some o) few = instance_few owned service attribute body o few

-- ---- what a faultless profile says

-- the limits of a description
pub record FitsDescription (d : Description) : Type 0 where
  pub name : length d.name ≤ 32
  pub mac : length d.mac ≡ 6

limited_by : (d : Description) → is_described (Some d) ≡ true → FitsDescription d
limited_by d fits = let parts = and_parts (nat_le (length d.name) 32) _ fits in let more = and_parts (length d.mac == 6) _ parts.1 in record {
  name = grind (arith, nat_tests);
  mac = grind (arith, nat_tests);
}

described_true : (profile : Profile) → profile_fault profile ≡ None → is_described profile.description ≡ true
unfolding profile_fault
described_true profile none = (and_parts (is_described profile.description) _ (not-false (fits_description profile) (all_pass (profile_tests profile) none).1.1.1.1.1.1.0)).0

-- the description of a faultless profile is within its limits
pub description_limited : (profile : Profile) (d : Description) → profile_fault profile ≡ None → profile.description ≡ Some d → FitsDescription d
description_limited profile d none is = limited_by d (sym (ap is_described is) ∙ described_true profile none)

-- its name is short
pub name_few : (profile : Profile) (d : Description) → profile_fault profile ≡ None → profile.description ≡ Some d → length d.name ≤ 32
name_few profile d none is = (description_limited profile d none is).name

objects_few_by : (classes : List ℕ) → are_objects classes ≡ true → length classes ≤ 16
objects_few_by classes is = let few = (and_parts (nat_le (length classes) 16) (are_own_classes classes) is).0 in grind (arith, nat_tests)

-- a faultless profile has few classes of the maker's own
pub objects_few : (profile : Profile) → profile_fault profile ≡ None → length profile.objects ≤ 16
unfolding profile_fault
objects_few profile none =
    objects_few_by profile.objects (not-false (are_objects profile.objects) (all_pass (profile_tests profile) none).1.1.1.1.1.1.1.1.0)

-- ---- the instances of a described device

words_len : (words : List ℕ) → length (flat_map u16 words) ≡ length words + length words
words_len [] = refl
words_len (word ∷ words) = omega (arith, words_len words)

class_few : (revision largest count : ℕ) (facts : ClassFacts) → length facts.attributes ≤ 16 → length facts.services ≤ 16 → IsFew (class_instance revision largest count facts)
class_few revision largest count facts attributes services =
    let first = words_len facts.attributes in
    let second = words_len facts.services in
    record {
      each = (omega arith, (omega arith, (omega arith, (omega (arith, first, attributes), (omega (arith, second, services), (omega arith, (omega arith, tt)))))));
      together = omega arith;
    }

identity_few : (identity : Identity) (d : Description) (standing : IdentityState) → FitsDescription d → IsFew (identity_instance identity d standing)
identity_few identity d standing limited =
    let behind : length (d.name ++ []) ≡ length d.name + 0 = length-append d.name [] in
    record {
      each = (omega arith, (omega arith, (omega arith, (omega arith, (omega arith, (omega arith, (omega (arith, limited.name), (omega arith, (omega arith, tt)))))))));
      together = omega (arith, behind, limited.name);
    }

left_few : (first second : Bool) → length {A = ℕ} (cond first (0x48 ∷ cond second (0xF4 ∷ []) []) (cond second (0xF4 ∷ []) [])) ≤ 2
left_few true true = omega arith
left_few true false = omega arith
left_few false true = omega arith
left_few false false = omega arith

-- the classes of QoS and Port that are none of the maker's own
abbrev left : List ℕ → List ℕ
left own = filter (is_other_class own) yielding_classes

pub left_is_few : (own : List ℕ) → length (filter (is_other_class own) yielding_classes) ≤ 2
left_is_few own = left_few (is_other_class own 0x48) (is_other_class own 0xF4)

router_few : (profile : Profile) (connections : ℕ) → length profile.objects ≤ 16 → IsFew (router_instance profile connections)
router_few profile connections few = record {
  each = (
    omega (arith, words_len (left profile.objects ++ profile.objects), length-append (left profile.objects) profile.objects, left_is_few profile.objects, few),
    (omega arith, (omega arith, tt)),
  );
  together = omega arith;
}

digits_few : (one two : Bool) (a b c d e f : ℕ) → length (cond one (a ∷ []) (cond two (b ∷ c ∷ []) (d ∷ e ∷ f ∷ []))) ≤ 3
digits_few true two a b c d e f = omega arith
digits_few false true a b c d e f = omega arith
digits_few false false a b c d e f = omega arith

decimal_few : (byte : ℕ) → length (decimal_byte byte) ≤ 3
decimal_few byte = digits_few (nat_lt byte 10) (nat_lt byte 100) _ _ _ _ _ _

pad_few : (odd : Bool) → length {A = ℕ} (cond odd (0 ∷ []) []) ≤ 1
pad_few true = omega arith
pad_few false = omega arith

four_few : (a b c d : List ℕ) → length a ≤ 3 → length b ≤ 3 → length c ≤ 3 → length d ≤ 3 → length (a ++ (46 ∷ (b ++ (46 ∷ (c ++ (46 ∷ d)))))) ≤ 15
four_few a b c d fa fb fc fd =
    omega (arith, length-append a (46 ∷ (b ++ (46 ∷ (c ++ (46 ∷ d))))), length-append b (46 ∷ (c ++ (46 ∷ d))), length-append c (46 ∷ d), fa, fb, fc, fd)

-- an address in digits has at most 15 bytes
pub node_text_few : (node : ℕ) → length (node_text node) ≤ 15
node_text_few node =
    four_few (decimal_byte (byte_at 3 node)) (decimal_byte (byte_at 2 node)) (decimal_byte (byte_at 1 node)) (decimal_byte (byte_at 0 node))
    (decimal_few (byte_at 3 node)) (decimal_few (byte_at 2 node)) (decimal_few (byte_at 1 node)) (decimal_few (byte_at 0 node))

segment_few : (text pad : List ℕ) → length text ≤ 15 → length pad ≤ 1 → length (0x12 ∷ (length text ∷ (text ++ pad))) ≤ 1400
segment_few text pad few short = omega (arith, length-append text pad, few, short)

port_few : (profile : Profile) → IsFew (port_instance profile)
port_few profile = record {
  each = (
    omega arith,
    (
      omega arith,
      (
        omega arith,
        (
          omega arith,
          (segment_few (node_text profile.node.0) _ (node_text_few profile.node.0) (pad_few (length (node_text profile.node.0) % 2 == 1)), tt),
        ),
      ),
    ),
  );
  together = omega arith;
}

port_class_few : IsFew port_class_instance
port_class_few = record {
  each = (omega arith, (omega arith, (omega arith, (omega arith, (omega arith, (omega arith, (omega arith, (omega arith, (omega arith, tt)))))))));
  together = omega arith;
}

qos_few : IsFew qos_instance
qos_few = record {
  each = (omega arith, (omega arith, (omega arith, (omega arith, (omega arith, (omega arith, (omega arith, (omega arith, tt))))))));
  together = omega arith;
}

interface_counters_len : (link : List ℕ) → length (interface_counters link) ≤ 44
interface_counters_len link = split (length link == link_len) (eqb-true (length link) link_len)
  where
    split : (b : Bool) → (b ≡ true → length link ≡ link_len) → length (cond b (take interface_len link) (replicate interface_len 0)) ≤ 44
    split true is = omega (arith, length-take interface_len link)
    split false is = omega arith

media_counters_len : (link : List ℕ) → length (media_counters link) ≤ 48
media_counters_len link = split (length link == link_len) (eqb-true (length link) link_len)
  where
    split : (b : Bool) → (b ≡ true → length link ≡ link_len) → length (cond b (drop interface_len link) (replicate media_len 0)) ≤ 48
    split true is = omega (arith, length-drop interface_len link, is refl)
    split false is = omega arith

link_control_len : (speed flags : ℕ) → length (link_control speed flags) ≤ 4
link_control_len speed flags = split (is_forced flags)
  where
    split : (b : Bool) → length (cond b (u16 (2 * (flags / 2 % 2)) ++ u16 (in_two_bytes speed)) (u16 1 ++ u16 0)) ≤ 4
    split true = omega arith
    split false = omega arith

link_few : (d : Description) (link : List ℕ) → FitsDescription d → IsFew (link_instance d link)
link_few d link limited =
    let behind = length-append d.mac (all_values (link_behind d link)) in
    let counters = interface_counters_len link in
    let media = media_counters_len link in
    let control = link_control_len d.speed d.flags in
    let first = length-append (interface_counters link) (all_values (drop 1 (link_behind d link))) in
    let second = length-append (media_counters link) (all_values (drop 2 (link_behind d link))) in
    let third = length-append (link_control d.speed d.flags) (all_values (drop 3 (link_behind d link))) in
    record {
      each = (omega arith, (omega arith, (omega (arith, limited.mac), (omega (arith, counters), (omega (arith, media), (omega (arith, control), (omega arith, (omega arith, (omega arith, (omega arith, (omega arith, tt)))))))))));
      together = omega (arith, behind, limited.mac, first, second, third, counters, media, control);
    }

interface_few : (profile : Profile) (d : Description) → IsFew (interface_instance profile d)
interface_few profile d = record {
  each = (omega arith, (omega arith, (omega arith, (omega arith, (omega arith, (omega arith, (omega arith, (omega arith, (omega arith, (omega arith, (omega arith, (omega arith, (omega arith, tt)))))))))))));
  together = omega arith;
}

abbrev AllFewCases : List (Case Instance) → Type 0
AllFewCases [] = Unit {0}
AllFewCases (case ∷ cases) = IsFew case.1 × AllFewCases cases

case_step : (b : Bool) (o : Instance) (rest : Option Instance) → IsFew o → FewInstance rest → FewInstance (cond b (Some o) rest)
case_step true o rest few more = few
case_step false o rest few more = more

first_few : (cases : List (Case Instance)) → AllFewCases cases → FewInstance (first_case cases)
first_few [] few = tt
first_few (case ∷ cases) few = case_step case.0 case.1 (first_case cases) few.0 (first_few cases few.1)

limited_few : (profile : Profile) (standing : IdentityState) (connections : ℕ) (link : List ℕ) (d : Description) (class instance : ℕ) → FitsDescription d → length profile.objects ≤ 16 → AllFewCases (described_cases profile standing connections link d class instance)
limited_few profile standing connections link d class instance limited objects = (
  class_few 1 1 1 identity_class (omega arith) (omega arith),
  (
    identity_few profile.identity d standing limited,
    (
      class_few 1 1 1 router_class (omega arith) (omega arith),
      (
        router_few profile connections objects,
        (
          class_few 1 1 1 manager_class (omega arith) (omega arith),
          (
            class_few 4 1 1 interface_class (omega arith) (omega arith),
            (
              interface_few profile d,
              (
                class_few 4 1 1 link_class (omega arith) (omega arith),
                (
                  link_few d link limited,
                  (class_few 1 1 1 qos_class (omega arith) (omega arith), (qos_few, (port_class_few, (port_few profile, tt)))),
                ),
              ),
            ),
          ),
        ),
      ),
    ),
  ),
)

-- the instances beside the assemblies are short
pub described_few : (profile : Profile) (standing : IdentityState) (connections : ℕ) (link : List ℕ) (d : Description) (class instance : ℕ) → profile_fault profile ≡ None → profile.description ≡ Some d → FewInstance (first_case (described_cases profile standing connections link d class instance))
described_few profile standing connections link d class instance none is =
    first_few (described_cases profile standing connections link d class instance)
    (limited_few profile standing connections link d class instance (description_limited profile d none is) (objects_few profile none))

-- ---- the assemblies

assembly_few_if : (described : Bool) (value : List ℕ) → length value ≤ 1400 → IsFew (assembly_instance described value)
assembly_few_if true value few = record { each = (few, (omega arith, tt)); together = omega arith }
assembly_few_if false value few = record { each = (few, tt); together = omega arith }

assembly_beside_few : (profile : Profile) (values : List PointValue) (instance : ℕ) (d : Option Description) → FewInstance (assembly_beside profile values instance d)
assembly_beside_few profile values instance None = tt
assembly_beside_few profile values instance (Some d) =
    case_step (instance == 0) _ _ (class_few 2 (in_two_bytes (largest_assembly profile values)) (assembly_count values) assembly_facts (omega arith) (omega arith))
    (case_step (is_heartbeat profile instance) _ None (assembly_few_if true [] (omega arith)) tt)

-- an assembly is short
pub assembly_found_few : (profile : Profile) (values : List PointValue) (instance : ℕ) (found : Option (List ℕ)) → IsShaped profile values → bytes_at values instance ≡ found → FewInstance (assembly_found profile values instance found)
assembly_found_few profile values instance None shaped is = assembly_beside_few profile values instance profile.description
assembly_found_few profile values instance (Some value) shaped is = assembly_few_if (is_some profile.description) value (bytes_short profile values instance value shaped is)

-- ---- the objects of a table

described_at_few : (t : AdapterTable) (class instance : ℕ) (found : Option Description) → t.profile.description ≡ found → profile_fault t.profile ≡ None → FewInstance (described_at t class instance found)
described_at_few t class instance None is none = tt
described_at_few t class instance (Some d) is none = described_few t.profile (standing_of t) (connection_count t.rows t.messaging) t.counters.link d class instance none is

manager_few : (c : ManagerCounters) (d : Option Description) → IsFew (manager_instance c d)
manager_few c None = record { each = tt; together = omega arith }
manager_few c (Some d) = record {
  each = (omega arith, (omega arith, (omega arith, (omega arith, (omega arith, (omega arith, (omega arith, (omega arith, tt))))))));
  together = omega arith;
}

class_step : (b : Bool) (first second : Option Instance) → FewInstance first → FewInstance second → FewInstance (cond b first second)
class_step true first second few more = few
class_step false first second few more = more

-- what carries no request is short
alone_few : (t : AdapterTable) (service class instance : ℕ) (attribute : Option ℕ) (body : List ℕ) → IsShaped t.profile t.values → FewSaid (alone_answer t service class instance attribute body)
unfolding alone_answer instance_at
alone_few t service class instance attribute body shaped =
    said_few (list_any is_owning t.rows) service attribute body (instance_at t class instance)
    (class_step (class == 0x04) (assembly_at t instance) _
    (assembly_found_few t.profile t.values instance (bytes_at t.values instance) shaped refl)
    (class_step (instance == 1 && class == 0x06) (Some (manager_instance t.counters.manager t.profile.description)) (described_at t class instance t.profile.description)
    (manager_few t.counters.manager t.profile.description)
    (described_at_few t class instance t.profile.description refl shaped.faultless)))

-- a packet is short
pub packet_few : (t : AdapterTable) (body : List ℕ) → FewSaid (packet_answer t body)
packet_few t [] = tt
packet_few t (low ∷ []) = tt
packet_few t (low ∷ high ∷ rest) =
    let body = low ∷ high ∷ rest in
    let starts = take (2 * word_of low high) rest in
    let members = member_replies t body starts in
    either (nat_lt (length rest) (2 * word_of low high)) (denied status.NotEnoughData) _ tt
    (either (nat_lt most_members (word_of low high)) (denied status.ReplyTooLarge) _ tt
    (either (not (are_placed body starts)) (denied status.InvalidParameter) (packet_replied low high members) tt
    (within_few Packet (packet_status (are_successes members)) (packet_data low high members))))

packed_few : (t : AdapterTable) (service class instance : ℕ) (attribute : Option ℕ) (body : List ℕ) → IsShaped t.profile t.values → FewSaid (packed_answer t service class instance attribute body)
packed_few t service class instance attribute body shaped =
    either (is_packet (is_some t.profile.description) service class instance) (packet_answer t body) (alone_answer t service class instance attribute body)
    (packet_few t body) (alone_few t service class instance attribute body shaped)

naming_few : (service : ℕ) (answer : ObjectAnswer) → FewSaid answer → FewSaid (naming service answer)
naming_few service (said by value) few = few
naming_few service (denied why) few = tt
naming_few service (resetting kind) few = tt
naming_few service (answering by general content) few = few
naming_few service (refusing named why) few = tt
naming_few service (unrouted words) few = tt

inner_few : (t : AdapterTable) (inner : Carried) → IsShaped t.profile t.values → FewSaid (inner_answer t inner)
inner_few t (barred service why) shaped = tt
inner_few t (asking service class instance attribute body) shaped =
    naming_few service (packed_answer t service class instance attribute body) (packed_few t service class instance attribute body shaped)

routed_few : (t : AdapterTable) (inner behind : List ℕ) → IsShaped t.profile t.values → FewSaid (routed_answer t inner behind)
routed_few t inner [] shaped = tt
routed_few t inner (words ∷ []) shaped = tt
routed_few t inner (words ∷ reserved ∷ route) shaped =
    either (nat_lt (length route) (2 * words)) (denied status.NotEnoughData) _ tt
    (either (nat_lt (2 * words) (length route)) (denied status.TooMuchData) _ tt
    (either (not (words == 0)) (unrouted words) _ tt (inner_few t (carried 0x52 t.profile.objects (router_request_reading inner)) shaped)))

-- what an Unconnected_Send answers is short
pub sent_few : (t : AdapterTable) (body : List ℕ) → IsShaped t.profile t.values → FewSaid (sent_answer t body)
sent_few t [] shaped = tt
sent_few t (tick ∷ []) shaped = tt
sent_few t (tick ∷ ticks ∷ []) shaped = tt
sent_few t (tick ∷ ticks ∷ low ∷ []) shaped = tt
sent_few t (tick ∷ ticks ∷ low ∷ high ∷ rest) shaped = routed_few t (take (word_of low high) rest) (drop (word_of low high + word_of low high % 2) rest) shaped

-- what a device answers is short
pub object_few : (t : AdapterTable) (service class instance : ℕ) (attribute : Option ℕ) (body : List ℕ) → IsShaped t.profile t.values → FewSaid (object_answer t service class instance attribute body)
unfolding object_answer
object_few t service class instance attribute body shaped =
    either (is_sending (is_some t.profile.description) service class instance) (sent_answer t body) (packed_answer t service class instance attribute body)
    (sent_few t body shaped) (packed_few t service class instance attribute body shaped)

-- ---- how many connections

kept_step : (b : Bool) (row : Row) (kept rows : List Row) → length kept ≤ length rows → length (cond b (row ∷ kept) kept) ≤ suc (length rows)
kept_step true row kept rows few = omega (arith, few)
kept_step false row kept rows few = omega (arith, few)

kept_few : (test : Row → Bool) (rows : List Row) → length (filter test rows) ≤ length rows
kept_few test [] = omega arith
kept_few test (row ∷ rows) = kept_step (test row) row (filter test rows) rows (kept_few test rows)

-- of an application type there are few
pub kind_few : (t : AdapterTable) (kind : Kind) → IsWhole t → kind_count t.rows kind ≤ 64
kind_few t kind whole = omega (arith, kept_few (is_of_kind kind) t.rows, whole.sound.few)
