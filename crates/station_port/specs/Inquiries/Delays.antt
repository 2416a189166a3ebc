-- How long the answer to a broadcast waits. Times are in milliseconds. Volume 2, chapter 2, ListIdentity.
--
-- the encapsulation header of a request:
--   0    command, length, session handle, status   12 bytes
--   12   sender context, first two bytes           u16   the longest delay
--   14   its other bytes, options                  10 bytes
use Rattle.std.specs.Prelude.{ℕ, ◌+◌, ◌%◌, max, min, nat_eq, nat_lt, if◌then◌else◌, List, length}
use Rattle.std.specs.Int.{w16}
use Rattle.cip_types.specs.Parts.{number_in}

-- the number that a request has where the delay stands: 0 if it ends before
abbrev pub named_delay : List ℕ → ℕ
named_delay request = if nat_lt (length request) 14 then 0 else number_in w16 request 12

-- 0 is the usual longest delay, a shorter one than 500 counts as 500, and a longer one than 2000 as 2000
abbrev pub longest_of : ℕ → ℕ
longest_of named = if nat_eq named 0 then 2000 else min (max named 500) 2000

abbrev pub longest_delay : List ℕ → ℕ
longest_delay request = longest_of (named_delay request)

-- the delay that a word draws, of at most so long
abbrev pub drawn_delay : ℕ → ℕ → ℕ
drawn_delay word longest = word % (longest + 1)
