-- A name that is found in a list.
use Rattle.std.proofs.Common.{◌≡◌, ℕ, Bool, true, false, cond, List, [], ◌∷◌, Option, Some, refl}
use Rattle.std.specs.Prelude.{bytes_eq, find, map, option_map, string_bytes}
use Rattle.trace_words.specs.declared.point_names.devices.DeviceName.{DeviceName}
use Rattle.trace_words.specs.declared.point_names.line.Named.{Named}
use Rattle.trace_words.specs.declared.point_names.names.Name.{Name}
use Rattle.trace_words.specs.PointNames.Things.{device_name, found_device, found_name, is_same, name_of, view_device, view_name}

by_test : {A B : Type 0} (test : Bool) (shown : A → B) (first : A) (found : Option A) (rest : Option B) → option_map shown found ≡ rest → option_map shown (cond test (Some first) found) ≡ cond test (Some (shown first)) rest
by_test true shown first found rest more = refl
by_test false shown first found rest more = more

pub name_found : (names : List Name) (thing : Named) → found_name names thing ≡ name_of (map view_name names) thing
name_found [] thing = refl
name_found (name ∷ names) thing = by_test (is_same name.named thing) (λ it. string_bytes it.text) name (find (λ it. is_same it.named thing) names) (name_of (map view_name names) thing) (name_found names thing)

pub device_found : (devices : List DeviceName) (word : List ℕ) → found_device devices word ≡ device_name (map view_device devices) word
device_found [] word = refl
device_found (device ∷ devices) word = by_test (bytes_eq (string_bytes device.address) word) (λ it. string_bytes it.name) device (find (λ it. bytes_eq (string_bytes it.address) word) devices) (device_name (map view_device devices) word) (device_found devices word)
