-- The line of a sum: the number of the event, `sum`, the verdict, the numbers of frames, datagrams and notices, and the CRC as
-- eight hexadecimal digits.
use Rattle.std.specs.Prelude.{ℕ, if◌then◌else◌, List, [], ◌∷◌, ◌++◌, codes, decimal, Option, Some, None}
use Rattle.std.specs.Int.{w32, to_be_bytes}
use Rattle.hex.specs.Hex.{encode_lower}
use Rattle.cip_events.specs.declared.event.Delivery.TheVariants as delivery
use Rattle.trace_words.specs.Reader.{Reader, Meanings, meaning, next_word, ends, ◌>>=◌}
use Rattle.trace_words.specs.Words.{id_of, is_word, number_of}
use Rattle.trace_outcomes.specs.WrittenOutcomes.{verdict_words}
use Rattle.trace_outcomes.specs.declared.sums.sum.OutcomeSum.{OutcomeSum}
use Rattle.trace_outcomes.specs.declared.sums.verdict.PlainVerdict.{PlainVerdict}
use Rattle.trace_outcomes.specs.declared.sums.verdict.PlainVerdict.TheVariants as plain
use Rattle.trace_outcomes.specs.Sums.Sums.{verdict_in}

-- HOW IT IS WRITTEN

abbrev pub count_words : OutcomeSum → List ℕ
count_words sum = codes " " ++ (decimal sum.frames ++ (codes " " ++ (decimal sum.datagrams ++ (codes " " ++ (decimal sum.notices ++ codes " ")))))

abbrev pub sum_line : ℕ → OutcomeSum → List ℕ
sum_line number sum = decimal number ++ (codes " sum " ++ (verdict_words (verdict_in sum.verdict) ++ (count_words sum ++ (encode_lower (to_be_bytes w32 sum.crc) ++ codes "\n"))))

-- HOW IT IS READ

abbrev pub plain_meanings : Meanings (Option PlainVerdict)
plain_meanings =
    (codes "done", Some plain.Done)
    ∷ (codes "bad-frame", Some plain.BadFrame)
    ∷ (codes "ignored", Some plain.Ignored)
    ∷ (codes "applied", Some (plain.Delivered delivery.Applied))
    ∷ (codes "idle", Some (plain.Delivered delivery.Idle))
    ∷ (codes "heartbeat", Some (plain.Delivered delivery.Heartbeat))
    ∷ (codes "duplicate", Some (plain.Delivered delivery.Duplicate))
    ∷ (codes "old", Some (plain.Delivered delivery.Old))
    ∷ (codes "unknown", Some (plain.Delivered delivery.UnknownId))
    ∷ (codes "wrong-size", Some (plain.Delivered delivery.WrongSize))
    ∷ (codes "malformed", Some (plain.Delivered delivery.Malformed))
    ∷ []

-- the verdict of a word
unfoldable pub plain_verdict_of : List ℕ → Option PlainVerdict
plain_verdict_of word = meaning plain_meanings None word

abbrev pub named_sum : List ℕ → Option Unit
named_sum word = if is_word (codes "sum") word then Some tt else None

-- a line, word by word
abbrev pub sum_reader : Reader (ℕ × OutcomeSum)
sum_reader = do
  number ← next_word (number_of 64)
  name ← next_word named_sum
  verdict ← next_word plain_verdict_of
  frames ← next_word (number_of 64)
  datagrams ← next_word (number_of 64)
  notices ← next_word (number_of 64)
  crc ← next_word id_of
  ends (number, record { verdict = verdict; frames = frames; datagrams = datagrams; notices = notices; crc = crc.0 })
