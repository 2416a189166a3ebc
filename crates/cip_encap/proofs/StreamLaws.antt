-- A stream has one list of messages, which its pieces' messages make, however it is cut.
use Rattle.std.proofs.Common.{◌≡◌, ℕ, zero, suc, ◌+◌, ◌<◌, ◌≤◌, List, [], ◌∷◌, ◌++◌, length, get_or, take, drop, Result, Ok, Err, refl, sym, ap, subst, ◌∙◌, append_assoc, arith, inl, inr, ◌⊎◌}
use Rattle.std.specs.List.{AllByRecursion, concat}
use Rattle.std.proofs.lemmas.Bool.{cases_lt}
use Rattle.std.proofs.lemmas.List.{get_or_append_left, get_or-append-add, get_or-take, take-append-drop, drop-drop, length-append, length-take, append_cancel_left}
use Rattle.cip_types.specs.FieldLaws.{IsBytes, IsBytes-drop, IsBytes-take}
use Rattle.cip_encap.specs.declared.message.EncapFault.{EncapFault}
use Rattle.cip_encap.specs.declared.message.EncapFault.TheVariants as fault
use Rattle.cip_encap.specs.Message.{MessageFields, IsMessageText, IsMessageReading}
use Rattle.cip_encap.specs.Reading.{message_reading}
use Rattle.cip_encap.specs.Stream.{IsShortMessage, BeginsNoMessage, AreMessages, length_field, IsTooLong, EndsTooLong, StandsFirst}
use Rattle.cip_encap.proofs.MessageLaws.{length-text, message_free, message_reading_is}

pub IsBytes-append : (xs ys : List ℕ) → IsBytes xs → IsBytes ys → IsBytes (xs ++ ys)
IsBytes-append [] ys fx fy i = fy i
IsBytes-append (x ∷ xs) ys fx fy zero = fx 0
IsBytes-append (x ∷ xs) ys fx fy (suc i) = IsBytes-append xs ys (λ k. fx (suc k)) fy i

-- ---- the length field

-- what follows a message leaves its length field
field_is : (t after : List ℕ) (m : MessageFields) → IsMessageText t m → length_field (t ++ after) ≡ length m.payload
field_is t after m is =
    let small = is.0.payload in
    ap (λ (x : List ℕ). length_field (x ++ after)) is.1 ∙ omega (arith, small)

field_front : (bytes more : List ℕ) → 4 ≤ length bytes → length_field (bytes ++ more) ≡ length_field bytes
field_front bytes more long =
    let third : get_or (bytes ++ more) 2 0 ≡ get_or bytes 2 0 = get_or_append_left bytes more 0 2 (omega arith) in
    let fourth : get_or (bytes ++ more) 3 0 ≡ get_or bytes 3 0 = get_or_append_left bytes more 0 3 (omega arith) in
    rw (third, fourth) refl

field_own : (t : List ℕ) (m : MessageFields) → IsMessageText t m → length_field t ≡ length m.payload
field_own t m is = sym (field_front t [] (omega (arith, length-text t m is))) ∙ field_is t [] m is

-- ---- the message at the front

-- no message begins bytes that are shorter than their length field says, or whose length field is too long
pub begins_none : (bytes : List ℕ) → (24 + length_field bytes ≤ length bytes → length_field bytes ≤ 2048 → ⊥) → BeginsNoMessage bytes
begins_none bytes neither text after is same =
    let len : length_field bytes ≡ length is.0.payload = ap length_field same ∙ field_is text after is.0 is.1 in
    neither
    (omega (arith, len, ap length same, length-append text after, length-text text is.0 is.1))
    (omega (arith, len, is.2))

-- bytes that are as many as their length field says are a message
whole : (t : List ℕ) (r : Result MessageFields EncapFault) → IsMessageReading t r → length t ≡ 24 + length_field t → (m : MessageFields) × IsMessageText t m
whole t (Ok m) is len = (m, is)
whole t (Err fault.Truncated) l len =
    let own = field_is (t ++ l.0) [] l.2.0 l.2.1 in
    let same : length_field t ≡ length l.2.0.payload = sym (field_front t l.0 (omega (arith, len))) ∙ field_own (t ++ l.0) l.2.0 l.2.1 in
    absurd (omega (arith, same, len, l.1, length-text (t ++ l.0) l.2.0 l.2.1, length-append t l.0))
whole t (Err fault.Trailing) x len =
    let same : length_field t ≡ length x.4.0.payload = ap length_field x.3 ∙ field_is x.0 x.1 x.4.0 x.4.1 in
    absurd (omega (arith, same, len, x.2, length-text x.0 x.4.0 x.4.1, ap length x.3, length-append x.0 x.1))

-- the message at the front of bytes that are as many at least
pub front_is : (bytes : List ℕ) (len : ℕ) → IsBytes bytes → len ≡ length_field bytes → 24 + len ≤ length bytes → len ≤ 2048 → IsShortMessage (take (24 + len) bytes)
front_is bytes len fits field long short =
    let n = 24 + len in
    let t = take (24 + len) bytes in
    let t_len : length t ≡ 24 + len = omega (arith, length-take (24 + len) bytes, long) in
    let third : get_or t 2 0 ≡ get_or bytes 2 0 = get_or-take (24 + len) bytes 2 0 (omega arith) in
    let fourth : get_or t 3 0 ≡ get_or bytes 3 0 = get_or-take (24 + len) bytes 3 0 (omega arith) in
    let own : length_field t ≡ len = omega (arith, third, fourth, field) in
    let m = whole t (message_reading t) (message_reading_is t (IsBytes-take (24 + len) bytes fits)) (omega (arith, t_len, own)) in
    (m.0, m.1, omega (arith, length-text t m.0 m.1, t_len, short))

-- bytes that no message begins are too long, or fewer than the longest message
rest_is_small : (rest : List ℕ) → IsBytes rest → BeginsNoMessage rest → IsTooLong rest ⊎ (length rest < 24 + 2048)
rest_is_small rest fits none =
    elim (cases_lt (length rest) (24 + 2048)) [
      | inl small ↦ inr small
      | inr large ↦ elim (cases_lt 2048 (length_field rest)) [
        | inl long ↦ inl (omega (arith, large), long)
        | inr short ↦
            let is = front_is rest (length_field rest) fits refl (omega (arith, large, short)) short in
            absurd (none (take (24 + length_field rest) rest) (drop (24 + length_field rest) rest) is (sym (take-append-drop (24 + length_field rest) rest)))
      ]
    ]

-- so is what is left behind the messages of a stream
pub left_is_small : (stream rest : List ℕ) (ms : List (List ℕ)) → IsBytes stream → AreMessages stream ms rest → IsTooLong rest ⊎ (length rest < 24 + 2048)
left_is_small stream rest ms fits are =
    let both = subst IsBytes are.parts fits in
    rest_is_small rest (λ i. rw (← get_or-append-add (concat ms) rest i 0) (both (length (concat ms) + i))) are.ends

-- ---- one list of messages

one_list : (ms ns : List (List ℕ)) (r s : List ℕ) → AllByRecursion IsShortMessage ms → AllByRecursion IsShortMessage ns → BeginsNoMessage r → BeginsNoMessage s → concat ms ++ r ≡ concat ns ++ s → (ms ≡ ns) × (r ≡ s)
one_list [] [] r s are are' none none' e = (refl, e)
one_list [] (n ∷ ns) r s are are' none none' e = absurd (none n (concat ns ++ s) are'.0 (e ∙ append_assoc n (concat ns) s))
one_list (m ∷ ms) [] r s are are' none none' e = absurd (none' m (concat ms ++ r) are.0 (sym e ∙ append_assoc m (concat ms) r))
one_list (m ∷ ms) (n ∷ ns) r s are are' none none' e =
    let parts : m ++ (concat ms ++ r) ≡ n ++ (concat ns ++ s) = sym (append_assoc m (concat ms) r) ∙ e ∙ append_assoc n (concat ns) s in
    let first = (message_free.apart m n (concat ms ++ r) (concat ns ++ s) are.0.0 are'.0.0 are.0.1 are'.0.1 parts).0 in
    let behind = append_cancel_left n (concat ms ++ r) (concat ns ++ s) (ap (λ (x : List ℕ). x ++ (concat ms ++ r)) (sym first) ∙ parts) in
    let others = one_list ms ns r s are.1 are'.1 none none' behind in
    (ap (λ (x : List ℕ). x ∷ ms) first ∙ ap (λ (x : List (List ℕ)). n ∷ x) others.0, others.1)

-- the messages of a stream, and what is left, are one
pub one_messages : (stream : List ℕ) (ms ns : List (List ℕ)) (r s : List ℕ) → AreMessages stream ms r → AreMessages stream ns s → (ms ≡ ns) × (r ≡ s)
one_messages stream ms ns r s are are' = one_list ms ns r s are.each are'.each are.ends are'.ends (sym are.parts ∙ are'.parts)

-- ---- a stream in pieces

each-append : (ms ns : List (List ℕ)) → AllByRecursion IsShortMessage ms → AllByRecursion IsShortMessage ns → AllByRecursion IsShortMessage (ms ++ ns)
each-append [] ns are are' = are'
each-append (m ∷ ms) ns are are' = (are.0, each-append ms ns are.1 are')

concat-append : (ms ns : List (List ℕ)) → concat (ms ++ ns) ≡ concat ms ++ concat ns
concat-append [] ns = refl
concat-append (m ∷ ms) ns = ap (λ (x : List ℕ). m ++ x) (concat-append ms ns) ∙ sym (append_assoc m (concat ms) (concat ns))

-- what a piece gives behind the rest of a stream goes on with the stream's messages
pub messages_go_on : (stream kept piece rest : List ℕ) (before ms : List (List ℕ)) → AreMessages stream before kept → AreMessages (kept ++ piece) ms rest → AreMessages (stream ++ piece) (before ++ ms) rest
messages_go_on stream kept piece rest before ms first next = record {
  each = each-append before ms first.each next.each;
  parts = ap (λ (x : List ℕ). x ++ piece) first.parts ∙ append_assoc (concat before) kept piece ∙ ap (λ (x : List ℕ). concat before ++ x) next.parts ∙ sym (append_assoc (concat before) (concat ms) rest) ∙ ap (λ (x : List ℕ). x ++ rest) (sym (concat-append before ms));
  ends = next.ends;
}

-- a message with at most 2,048 bytes of data stands first in any stream that begins with it
pub message_is_first : (t : List ℕ) → IsShortMessage t → StandsFirst t
message_is_first t is after [] rest are = absurd (are.ends t after is (sym are.parts))
message_is_first t is after (m ∷ ms) rest are =
    let parts = are.parts ∙ append_assoc m (concat ms) rest in
    let same = (message_free.apart t m after (concat ms ++ rest) is.0 are.each.0.0 is.1 are.each.0.1 parts).0 in
    (ms, ap (λ (x : List ℕ). x ∷ ms) (sym same))

-- nothing is no messages, and nothing is left
pub no_messages : AreMessages [] [] []
no_messages = record { each = tt; parts = refl; ends = begins_none [] (λ long _. omega (arith, long)) }

-- ---- a walk over a stream, message by message

-- the stream is messages, and behind them what is left to look at
pub record IsWalk (stream : List ℕ) (ms : List (List ℕ)) (rest : List ℕ) : Type 0 where
  pub each : AllByRecursion IsShortMessage ms
  pub parts : stream ≡ concat ms ++ rest

pub walk_more : (stream rest t after : List ℕ) (ms : List (List ℕ)) → IsWalk stream ms rest → IsShortMessage t → rest ≡ t ++ after → IsWalk stream (ms ++ t ∷ []) after
walk_more stream rest t after ms walk is same =
    let one : concat (t ∷ []) ++ after ≡ t ++ after = append_assoc t [] after in
    record {
      each = each-append ms (t ∷ []) walk.each (is, tt);
      parts = walk.parts ∙ ap (λ (x : List ℕ). concat ms ++ x) (same ∙ sym one) ∙ sym (append_assoc (concat ms) (concat (t ∷ [])) after) ∙ ap (λ (x : List ℕ). x ++ after) (sym (concat-append ms (t ∷ [])));
    }

pub walk_ends : (stream rest : List ℕ) (ms : List (List ℕ)) → IsWalk stream ms rest → BeginsNoMessage rest → AreMessages stream ms rest
walk_ends stream rest ms walk none = record { each = walk.each; parts = walk.parts; ends = none }

-- the place is behind messages of the stream
pub record IsPlace (stream : List ℕ) (at : ℕ) : Type 0 where
  pub messages : List (List ℕ)
  pub walk : IsWalk stream messages (drop at stream)

pub place_more : (stream : List ℕ) (at len : ℕ) → IsBytes stream → IsPlace stream at → len ≡ length_field (drop at stream) → 24 + len ≤ length (drop at stream) → len ≤ 2048 → IsPlace stream (at + (24 + len))
place_more stream at len fits place field long short =
    let rest = drop at stream in
    let is = front_is rest len (IsBytes-drop at stream fits) field long short in
    let cut = sym (take-append-drop (24 + len) rest) ∙ ap (λ (x : List ℕ). take (24 + len) rest ++ x) (drop-drop (24 + len) at stream) in
    record { messages = place.messages ++ take (24 + len) rest ∷ []; walk = walk_more stream rest (take (24 + len) rest) (drop (at + (24 + len)) stream) place.messages place.walk is cut }

-- at a place behind which no message begins, the messages end
place_ends : (stream : List ℕ) (at : ℕ) → (place : IsPlace stream at) → BeginsNoMessage (drop at stream) → AreMessages stream place.messages (drop at stream)
place_ends stream at place none = walk_ends stream (drop at stream) place.messages place.walk none

pub place_too_long : (stream : List ℕ) (at len : ℕ) → IsPlace stream at → 4 ≤ length (drop at stream) → len ≡ length_field (drop at stream) → 2048 < len → EndsTooLong stream
place_too_long stream at len place there field long =
    let none = begins_none (drop at stream) (λ _ short. omega (arith, field, long, short)) in
    (place.messages, (drop at stream, place_ends stream at place none, (there, omega (arith, field, long))))

pub place_not_long : (stream : List ℕ) (at : ℕ) → IsPlace stream at → BeginsNoMessage (drop at stream) → (IsTooLong (drop at stream) → ⊥) → EndsTooLong stream → ⊥
place_not_long stream at place none fine ends =
    let same = one_messages stream place.messages ends.0 (drop at stream) ends.1.0 (place_ends stream at place none) ends.1.1 in
    fine (subst IsTooLong (sym same.1) ends.1.2)
