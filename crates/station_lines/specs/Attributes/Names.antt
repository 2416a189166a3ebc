-- The attributes that a station knows, by their names and types.
--
--   class 01  Identity            Volume 1, chapter 5
--   class 02  Message Router      Volume 1, chapter 5
--   class 04  Assembly            Volume 1, chapter 5
--   class 48  QoS                 Volume 2, chapter 5
--   class F4  Port                Volume 1, chapter 3
--   class F5  TCP/IP Interface    Volume 2, chapter 5
--   class F6  Ethernet Link       Volume 2, chapter 5
--
-- Instance 0 of each class has the attributes of the class (Volume 1, chapter 4).
use Rattle.std.specs.Prelude.{ℕ, ◌==◌, if◌then◌else◌, List, [], ◌∷◌, codes, Option, None}
use Rattle.cip_types.specs.Cases.{first_case}
use Rattle.station_lines.specs.declared.attributes.kind.AttributeType.{AttributeType}
use Rattle.station_lines.specs.declared.attributes.kind.AttributeType.TheVariants.{Usint, Uint, Udint, Word, Dword, Revision, ShortString, CountedString, Interface, PhysicalAddress, Raw}

-- a type and a name
abbrev pub Known : Type 0
Known = AttributeType × List ℕ

-- an attribute of a class
abbrev pub class_attribute : ℕ → Option Known
class_attribute attribute = first_case (
    (attribute == 1, (Uint, codes "revision"))
    ∷ (attribute == 2, (Uint, codes "max-instance"))
    ∷ (attribute == 3, (Uint, codes "number-of-instances"))
    ∷ (attribute == 4, (Raw, codes "optional-attributes"))
    ∷ (attribute == 5, (Raw, codes "optional-services"))
    ∷ (attribute == 6, (Uint, codes "max-class-attribute"))
    ∷ (attribute == 7, (Uint, codes "max-instance-attribute"))
    ∷ [])

abbrev pub identity_attribute : ℕ → Option Known
identity_attribute attribute = first_case (
    (attribute == 1, (Uint, codes "vendor"))
    ∷ (attribute == 2, (Uint, codes "device-type"))
    ∷ (attribute == 3, (Uint, codes "product-code"))
    ∷ (attribute == 4, (Revision, codes "revision"))
    ∷ (attribute == 5, (Word, codes "status"))
    ∷ (attribute == 6, (Udint, codes "serial-number"))
    ∷ (attribute == 7, (ShortString, codes "product-name"))
    ∷ (attribute == 8, (Usint, codes "state"))
    ∷ (attribute == 9, (Uint, codes "configuration-consistency"))
    ∷ [])

abbrev pub router_attribute : ℕ → Option Known
router_attribute attribute = first_case (
    (attribute == 1, (Raw, codes "object-list"))
    ∷ (attribute == 2, (Uint, codes "max-connections"))
    ∷ (attribute == 3, (Uint, codes "number-of-connections"))
    ∷ [])

abbrev pub assembly_attribute : ℕ → Option Known
assembly_attribute attribute = first_case (
    (attribute == 3, (Raw, codes "data"))
    ∷ (attribute == 4, (Uint, codes "size"))
    ∷ [])

abbrev pub interface_attribute : ℕ → Option Known
interface_attribute attribute = first_case (
    (attribute == 1, (Dword, codes "status"))
    ∷ (attribute == 2, (Dword, codes "capability"))
    ∷ (attribute == 3, (Dword, codes "control"))
    ∷ (attribute == 4, (Raw, codes "physical-link"))
    ∷ (attribute == 5, (Interface, codes "interface"))
    ∷ (attribute == 6, (CountedString, codes "host-name"))
    ∷ (attribute == 8, (Usint, codes "time-to-live"))
    ∷ (attribute == 9, (Raw, codes "multicast-groups"))
    ∷ (attribute == 10, (Usint, codes "conflict-detection"))
    ∷ (attribute == 11, (Raw, codes "last-conflict"))
    ∷ (attribute == 13, (Uint, codes "inactivity-timeout"))
    ∷ [])

abbrev pub link_attribute : ℕ → Option Known
link_attribute attribute = first_case (
    (attribute == 1, (Udint, codes "speed"))
    ∷ (attribute == 2, (Dword, codes "flags"))
    ∷ (attribute == 3, (PhysicalAddress, codes "physical-address"))
    ∷ (attribute == 7, (Usint, codes "type"))
    ∷ (attribute == 8, (Usint, codes "state"))
    ∷ (attribute == 9, (Usint, codes "admin-state"))
    ∷ (attribute == 10, (ShortString, codes "label"))
    ∷ (attribute == 11, (Raw, codes "capability"))
    ∷ [])

-- the code points of datagrams
abbrev pub qos_attribute : ℕ → Option Known
qos_attribute attribute = first_case (
    (attribute == 1, (Usint, codes "tags-enabled"))
    ∷ (attribute == 2, (Usint, codes "dscp-ptp-event"))
    ∷ (attribute == 3, (Usint, codes "dscp-ptp-general"))
    ∷ (attribute == 4, (Usint, codes "dscp-urgent"))
    ∷ (attribute == 5, (Usint, codes "dscp-scheduled"))
    ∷ (attribute == 6, (Usint, codes "dscp-high"))
    ∷ (attribute == 7, (Usint, codes "dscp-low"))
    ∷ (attribute == 8, (Usint, codes "dscp-explicit"))
    ∷ [])

abbrev pub port_attribute : ℕ → Option Known
port_attribute attribute = first_case (
    (attribute == 1, (Uint, codes "type"))
    ∷ (attribute == 2, (Uint, codes "number"))
    ∷ (attribute == 3, (Raw, codes "link-object"))
    ∷ (attribute == 4, (ShortString, codes "name"))
    ∷ (attribute == 7, (Raw, codes "node-address"))
    ∷ [])

-- an attribute of an instance of a class
abbrev pub instance_attribute : ℕ → ℕ → Option Known
instance_attribute class attribute =
    if class == 0x01 then identity_attribute attribute
    else if class == 0x04 then assembly_attribute attribute
    else if class == 0xF5 then interface_attribute attribute
    else if class == 0xF6 then link_attribute attribute
    else if class == 0x02 then router_attribute attribute
    else if class == 0x48 then qos_attribute attribute
    else if class == 0xF4 then port_attribute attribute
    else None

-- type and name of an attribute; none if a station does not know it
unfoldable pub known_attribute : (class instance attribute : ℕ) → Option Known
known_attribute class instance attribute = if instance == 0 then class_attribute attribute else instance_attribute class attribute
