-- The names of points, slots and bits of a profile, and of the devices of a plant.
use Rattle.std.specs.Prelude.{ℕ, ◌==◌, ◌&&◌, Bool, false, if◌then◌else◌, List, [], ◌∷◌, bytes_eq, find, map, option_map, Option, Some, None, string_bytes}
use Rattle.trace_words.specs.declared.point_names.devices.DeviceName.{DeviceName}
use Rattle.trace_words.specs.declared.point_names.devices.DeviceNames.{DeviceNames}
use Rattle.trace_words.specs.declared.point_names.line.Named.{Named}
use Rattle.trace_words.specs.declared.point_names.line.Named.TheVariants as named
use Rattle.trace_words.specs.declared.point_names.names.Name.{Name}
use Rattle.trace_words.specs.declared.point_names.names.Names.{Names}

-- POINTS, SLOTS AND BITS

-- what is named, and its name
abbrev pub PointName : Type 0
PointName = Named × List ℕ

abbrev pub view_name : Name → PointName
view_name name = (name.named, string_bytes name.text)

abbrev pub names_in : Names → List PointName
names_in names = map view_name names.names.items

-- the same thing is named
abbrev pub is_same : Named → Named → Bool
is_same (named.Point one) (named.Point other) = one == other
is_same (named.Slot one) (named.Slot other) = one == other
is_same (named.Bit point byte bit) (named.Bit point' byte' bit') = point == point' && (byte == byte' && bit == bit')
is_same one other = false

-- the name of a thing, if it has one
abbrev pub name_of : List PointName → Named → Option (List ℕ)
name_of [] thing = None
name_of (name ∷ names) thing = if is_same name.0 thing then Some name.1 else name_of names thing

-- as it is found among the names themselves
abbrev pub found_name : List Name → Named → Option (List ℕ)
found_name names thing = option_map (λ name. string_bytes name.text) (find (λ name. is_same name.named thing) names)

-- DEVICES

-- the address of a device as a word, and its name
abbrev pub DeviceEntry : Type 0
DeviceEntry = List ℕ × List ℕ

abbrev pub view_device : DeviceName → DeviceEntry
view_device device = (string_bytes device.address, string_bytes device.name)

abbrev pub devices_in : DeviceNames → List DeviceEntry
devices_in devices = map view_device devices.devices.items

-- the name of the first device whose address a word is
abbrev pub device_name : List DeviceEntry → List ℕ → Option (List ℕ)
device_name [] word = None
device_name (device ∷ devices) word = if bytes_eq device.0 word then Some device.1 else device_name devices word

-- as it is found among the devices themselves
abbrev pub found_device : List DeviceName → List ℕ → Option (List ℕ)
found_device devices word = option_map (λ device. string_bytes device.name) (find (λ device. bytes_eq (string_bytes device.address) word) devices)
