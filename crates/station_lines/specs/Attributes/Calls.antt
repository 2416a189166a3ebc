-- The calls that get and set an attribute of a target, as lines, and the request of each (Volume 1, chapter 2, message
-- router request; appendix A, Get_Attribute_Single and Set_Attribute_Single).
use Rattle.std.specs.Prelude.{ℕ, ◌/◌, List, [], ◌∷◌, ◌++◌, length, codes, option_map, Option, Some}
use Rattle.cip_epath.specs.declared.path.Target.{Target}
use Rattle.cip_epath.specs.Written.{target_text}
use Rattle.cip_events.specs.declared.event.Event.{Event}
use Rattle.cip_events.specs.declared.event.Event.TheVariants as event
use Rattle.trace_words.specs.Reader.{Reader, ◌>>=◌, next_word, gives, ends, refuses, meaning}
use Rattle.trace_words.specs.Words.{bytes_of, node_of, number_of, words_of}
use Rattle.station_lines.specs.declared.attributes.calls.AttributeCall.{AttributeCall}
use Rattle.station_lines.specs.declared.attributes.calls.AttributeCall.TheVariants as call
use Rattle.station_lines.specs.declared.attributes.requested.TargetAttribute.{TargetAttribute}

-- LINES

abbrev pub word_of_line : List ℕ → Option (List ℕ)
word_of_line word = Some word

-- target, class, instance and attribute
unfoldable pub attribute_words : Reader TargetAttribute
attribute_words = do
  target ← next_word node_of
  class ← next_word (number_of 32)
  instance ← next_word (number_of 32)
  attribute ← next_word (number_of 32)
  gives (record { target = target; class = class; instance = instance; attribute = attribute })

abbrev pub get_words : Reader AttributeCall
get_words = attribute_words >>= λ at. ends (call.Get at)

abbrev pub set_words : Reader AttributeCall
set_words = attribute_words >>= λ at. (next_word bytes_of >>= λ bytes. ends (call.Set at bytes))

-- the calls by their first words
abbrev pub call_words : Reader AttributeCall
call_words = next_word word_of_line >>= λ word. meaning ((codes "get", get_words) ∷ (codes "set", set_words) ∷ []) refuses word

-- the call that a line writes
unfoldable pub attribute_call_of : List ℕ → Option AttributeCall
attribute_call_of line = option_map (λ read. read.0) (call_words (words_of line))

-- REQUESTS

-- the path of an attribute
abbrev pub path_of : TargetAttribute → Target
path_of at = record { class = at.class; instance = at.instance; attribute = Some at.attribute }

-- a request of this service to an attribute: the service, the words of the path, the path, the data
abbrev pub request_text : ℕ → TargetAttribute → List ℕ → List ℕ
request_text service at value = service ∷ length (target_text (path_of at)) / 2 ∷ (target_text (path_of at) ++ value)

-- the request of a call
unfoldable pub call_request : AttributeCall → List ℕ
call_request (call.Get at) = request_text 0x0E at []
call_request (call.Set at bytes) = request_text 0x10 at bytes

-- the target of a call
abbrev pub call_target : AttributeCall → TargetAttribute
call_target (call.Get at) = at
call_target (call.Set at bytes) = at

-- the event of a call, with this number
abbrev pub call_event : ℕ → AttributeCall → Event
call_event number requested = event.Explicit (call_target requested).target number (call_request requested)
