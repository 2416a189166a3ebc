-- The lines of an input and those of a page, on their way to the station that takes them.
use Rattle.std.specs.Prelude.{ℕ, ◌≡◌, Bool, true, false, List, ◌++◌}
use Rattle.station_lines.specs.Lines.{LineNow, Whole, NotYet, Ended, is_full, left_behind, next_of}
use Rattle.station_rim.specs.declared.unread_calls.CallOffer.{CallOffer}
use Rattle.station_rim.specs.declared.unread_calls.CallOffer.TheVariants as offered

-- the bytes that were read of an input, whether it has ended, and the lines of a page; none of both was taken
pub record UnreadCalls : Type 0 where
  pub bytes : List ℕ
  pub ended : Bool
  pub page : List ℕ

-- What became of a line of a page: it is behind the others of the page, and so within no line of the input; or nothing changes.
abbrev pub WasOffered : UnreadCalls → List ℕ → CallOffer → UnreadCalls → Type 0
WasOffered old line offered.Taken new = (is_full old.page ≡ false) × (new ≡ record old { page = old.page ++ line })
WasOffered old line offered.Full new = (is_full old.page ≡ true) × (new ≡ old)
WasOffered old line offered.OutOfMemory new = (is_full old.page ≡ false) × (new ≡ old)

-- a line of the page, or else what the input has
abbrev pub first_line : LineNow → LineNow → LineNow
first_line (Whole line) input = Whole line
first_line NotYet input = input
first_line Ended input = input

abbrev pub next_call : UnreadCalls → LineNow
next_call calls = first_line (next_of false calls.page) (next_of calls.ended calls.bytes)

-- what is left behind it
abbrev pub left_of_input : LineNow → UnreadCalls → UnreadCalls
left_of_input (Whole line) calls = calls
left_of_input NotYet calls = record calls { bytes = left_behind calls.ended calls.bytes }
left_of_input Ended calls = record calls { bytes = left_behind calls.ended calls.bytes }

abbrev pub without_page_line : UnreadCalls → UnreadCalls
without_page_line calls = record calls { page = left_behind false calls.page }

abbrev pub calls_after : UnreadCalls → UnreadCalls
calls_after calls = left_of_input (next_of false calls.page) (without_page_line calls)
