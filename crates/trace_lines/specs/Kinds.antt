-- The kinds of the words of a line: how a word of each kind is read, and how it is written.
use Rattle.std.specs.Prelude.{ℕ, ◌+◌, ◌==◌, ◌%◌, nat_le, Bool, true, false, if◌then◌else◌, List, [], ◌∷◌, length, drop, get_or, codes, decimal, option_and_then, Option, Some, None}
use Rattle.std.proofs.Common.{lit<}
use Rattle.std.proofs.Math.Nat.{mod-lt}
use Rattle.std.specs.Int.{w16, from_le_bytes}
use Rattle.hex.specs.Hex.{encode_lower}
use Rattle.cip_types.specs.declared.names.Node.{Node}
use Rattle.cip_epath.specs.declared.key.ElectronicKey.{ElectronicKey}
use Rattle.cip_epath.specs.ElectronicKey.{view_key}
use Rattle.cip_epath.specs.Segment.{key_text}
use Rattle.cip_netparams.specs.declared.Trigger.{Trigger}
use Rattle.cip_netparams.specs.declared.Trigger.TheVariants.{Cyclic, ChangeOfState}
use Rattle.cip_productions.specs.declared.kind.Kind.{Kind}
use Rattle.cip_productions.specs.declared.kind.Kind.TheVariants.{ExclusiveOwner, InputOnly, ListenOnly}
use Rattle.adapter_table.specs.declared.profile.Action.{Action}
use Rattle.adapter_table.specs.declared.profile.Action.TheVariants.{Zero, Hold}
use Rattle.trace_lines.specs.declared.shapes.WordKind.{WordKind}
use Rattle.trace_lines.specs.declared.shapes.WordKind.TheVariants as word
use Rattle.trace_words.specs.Words.{number_of, node_of, nodes_of, bytes_of, instance_of, general_of, node_word, nodes_word, bytes_word, general_word}
use Rattle.trace_words.specs.Reader.{Meanings, meaning}

-- NAMES

-- an action for an output
abbrev pub action_meanings : Meanings (Option Action)
action_meanings = (codes "zero", Some Zero) ∷ (codes "hold", Some Hold) ∷ []

unfoldable pub action_of : List ℕ → Option Action
action_of word = meaning action_meanings None word

abbrev pub action_word : Action → List ℕ
action_word Zero = codes "zero"
action_word Hold = codes "hold"

-- the kind of a connection
abbrev pub kind_meanings : Meanings (Option Kind)
kind_meanings =
    (codes "exclusive", Some ExclusiveOwner)
    ∷ (codes "input", Some InputOnly)
    ∷ (codes "listen", Some ListenOnly)
    ∷ []

unfoldable pub kind_of : List ℕ → Option Kind
kind_of word = meaning kind_meanings None word

abbrev pub kind_word : Kind → List ℕ
kind_word ExclusiveOwner = codes "exclusive"
kind_word InputOnly = codes "input"
kind_word ListenOnly = codes "listen"

-- whether the target produces for a group
abbrev pub multicast_meanings : Meanings (Option Bool)
multicast_meanings = (codes "p2p", Some false) ∷ (codes "multicast", Some true) ∷ []

unfoldable pub multicast_of : List ℕ → Option Bool
multicast_of word = meaning multicast_meanings None word

abbrev pub multicast_word : Bool → List ℕ
multicast_word false = codes "p2p"
multicast_word true = codes "multicast"

-- the trigger of the target's productions
abbrev pub trigger_meanings : Meanings (Option Trigger)
trigger_meanings = (codes "cyclic", Some Cyclic) ∷ (codes "change", Some ChangeOfState) ∷ []

unfoldable pub trigger_of : List ℕ → Option Trigger
trigger_of word = meaning trigger_meanings None word

abbrev pub trigger_word : Trigger → List ℕ
trigger_word Cyclic = codes "cyclic"
trigger_word ChangeOfState = codes "change"

-- whether a scanner's application runs
abbrev pub mode_meanings : Meanings (Option Bool)
mode_meanings = (codes "run", Some true) ∷ (codes "idle", Some false) ∷ []

unfoldable pub mode_of : List ℕ → Option Bool
mode_of word = meaning mode_meanings None word

abbrev pub mode_word : Bool → List ℕ
mode_word true = codes "run"
mode_word false = codes "idle"

-- which nodes close a connection: its own alone
abbrev pub closers_meanings : Meanings (Option (Unit {0}))
closers_meanings = (codes "own", Some tt) ∷ []

unfoldable pub closers_of : List ℕ → Option (Unit {0})
closers_of word = meaning closers_meanings None word

abbrev pub closers_word : Unit {0} → List ℕ
closers_word own = codes "own"

-- the word before the number of openings
abbrev pub openings_meanings : Meanings (Option (Unit {0}))
openings_meanings = (codes "openings", Some tt) ∷ []

unfoldable pub openings_of : List ℕ → Option (Unit {0})
openings_of word = meaning openings_meanings None word

abbrev pub openings_word : Unit {0} → List ℕ
openings_word said = codes "openings"

-- INSTANCES AND KEYS

-- an instance; a dash for none
abbrev pub instance_word : Option ℕ → List ℕ
instance_word None = codes "-"
instance_word (Some instance) = decimal instance

-- the number in two bytes, the first of them at this place
abbrev pub pair_at : List ℕ → ℕ → ℕ
pair_at bytes at = from_le_bytes w16 (get_or bytes at 0 ∷ get_or bytes (at + 1) 0 ∷ [])

-- vendor, device type and product code in two bytes each, the major revision with the compatibility bit, and the
-- minor revision
abbrev pub key_with : List ℕ → ElectronicKey
key_with bytes = record {
  vendor = pair_at bytes 0;
  device_type = pair_at bytes 2;
  product = pair_at bytes 4;
  compatible = nat_le 128 (get_or bytes 6 0);
  major = get_or bytes 6 0 % 128;
  minor = get_or bytes 7 0;
  seven_bits = mod-lt (get_or bytes 6 0) (lit< tt);
}

-- the key of eight bytes; none of no bytes
unfoldable pub key_of_bytes : List ℕ → Option (Option ElectronicKey)
key_of_bytes bytes = if length bytes == 0 then Some None else (if length bytes == 8 then Some (Some (key_with bytes)) else None)

-- the key that a word spells; none by a dash
abbrev pub key_of : List ℕ → Option (Option ElectronicKey)
key_of word = option_and_then key_of_bytes (bytes_of word)

-- the bytes of a key segment behind its format, in lower case; a dash for none
abbrev pub key_word : Option ElectronicKey → List ℕ
key_word None = codes "-"
key_word (Some key) = encode_lower (drop 2 (key_text (view_key key)))

-- THE KINDS

-- the values of the words of a kind
abbrev pub ValueOf : WordKind → Type 0
ValueOf word.U8 = ℕ
ValueOf word.U16 = ℕ
ValueOf word.U32 = ℕ
ValueOf word.U64 = ℕ
ValueOf word.Instance = Option ℕ
ValueOf word.Address = Node
ValueOf word.Addresses = List Node
ValueOf word.Hex = List ℕ
ValueOf word.ElectronicKey = Option ElectronicKey
ValueOf word.GeneralStatus = ℕ
ValueOf word.Action = Action
ValueOf word.Mode = Bool
ValueOf word.ApplicationType = Kind
ValueOf word.ConnectionType = Bool
ValueOf word.Trigger = Trigger
ValueOf word.Closers = Unit {0}
ValueOf word.Openings = Unit {0}

-- the value that a word writes, if it is of this kind
abbrev pub value_of : (kind : WordKind) → List ℕ → Option (ValueOf kind)
value_of word.U8 = number_of 8
value_of word.U16 = number_of 16
value_of word.U32 = number_of 32
value_of word.U64 = number_of 64
value_of word.Instance = instance_of
value_of word.Address = node_of
value_of word.Addresses = nodes_of
value_of word.Hex = bytes_of
value_of word.ElectronicKey = key_of
value_of word.GeneralStatus = general_of
value_of word.Action = action_of
value_of word.Mode = mode_of
value_of word.ApplicationType = kind_of
value_of word.ConnectionType = multicast_of
value_of word.Trigger = trigger_of
value_of word.Closers = closers_of
value_of word.Openings = openings_of

-- the word of a value
abbrev pub word_of : (kind : WordKind) → ValueOf kind → List ℕ
word_of word.U8 = λ number. decimal number
word_of word.U16 = λ number. decimal number
word_of word.U32 = λ number. decimal number
word_of word.U64 = λ number. decimal number
word_of word.Instance = instance_word
word_of word.Address = node_word
word_of word.Addresses = nodes_word
word_of word.Hex = bytes_word
word_of word.ElectronicKey = key_word
word_of word.GeneralStatus = general_word
word_of word.Action = action_word
word_of word.Mode = mode_word
word_of word.ApplicationType = kind_word
word_of word.ConnectionType = multicast_word
word_of word.Trigger = trigger_word
word_of word.Closers = closers_word
word_of word.Openings = openings_word
