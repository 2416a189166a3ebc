-- Streams of messages: the whole messages of a stream, and the bytes after the last of them (Volume 2, chapter 2,
-- encapsulation messages over TCP). Messages here have at most 2,048 bytes of data.
use Rattle.std.specs.Prelude.{◌≡◌, ◌≢◌, ℕ, ◌+◌, ◌*◌, ◌<◌, ◌≤◌, List, ◌∷◌, ◌++◌, length, slice_index}
use Rattle.std.specs.List.{AllByRecursion, concat}
use Rattle.cip_encap.specs.Message.{MessageFields, IsMessageText}

-- text is that of a message with at most 2,048 bytes of data
abbrev pub IsShortMessage : List ℕ → Type 0
IsShortMessage text = (m : MessageFields) × IsMessageText text m × (length m.payload ≤ 2048)

-- the bytes begin with no such text
abbrev pub BeginsNoMessage : List ℕ → Type 0
BeginsNoMessage bytes = (text after : List ℕ) → IsShortMessage text → bytes ≢ text ++ after

-- the stream is the texts of the messages one after the other, up to a rest that begins with no such text
pub record AreMessages (stream : List ℕ) (messages : List (List ℕ)) (rest : List ℕ) : Type 0 where
  pub each : AllByRecursion IsShortMessage messages
  pub parts : stream ≡ concat messages ++ rest
  pub ends : BeginsNoMessage rest

-- the stream has no other messages, and no other rest
abbrev pub AreOnlyMessages : List ℕ → List (List ℕ) → List ℕ → Type 0
AreOnlyMessages stream messages rest = (others : List (List ℕ)) (left : List ℕ) → AreMessages stream others left → (messages ≡ others) × (rest ≡ left)

-- after every stream with this rest, the messages of the piece continue the stream's
abbrev pub GoOn : List ℕ → List ℕ → List (List ℕ) → List ℕ → Type 0
GoOn left piece messages rest = (stream : List ℕ) (before : List (List ℕ)) → AreMessages stream before left → AreMessages (stream ++ piece) (before ++ messages) rest

-- the length field of the message that the bytes may begin
abbrev pub length_field : List ℕ → ℕ
length_field bytes = slice_index bytes 2 + 256 * slice_index bytes 3

-- the length field is complete, and above 2,048
abbrev pub IsTooLong : List ℕ → Type 0
IsTooLong bytes = (4 ≤ length bytes) × (2048 < length_field bytes)

-- the rest of the stream has too large a length field
abbrev pub EndsTooLong : List ℕ → Type 0
EndsTooLong stream = (messages : List (List ℕ)) × ((rest : List ℕ) × AreMessages stream messages rest × IsTooLong rest)

-- the text is the first message of every stream that begins with it
abbrev pub StandsFirst : List ℕ → Type 0
StandsFirst text = (after : List ℕ) (messages : List (List ℕ)) (rest : List ℕ) → AreMessages (text ++ after) messages rest → (others : List (List ℕ)) × (messages ≡ text ∷ others)
