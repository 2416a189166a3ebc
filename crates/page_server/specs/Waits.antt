-- How long a page waits for a browser: for its request, and while it does not read.
use Rattle.std.specs.Prelude.{ℕ, ◌+◌, ◌-◌, ◌/◌, min, nat_le, Bool, true}
use Rattle.page_server.specs.declared.page.request.Body.{Body}
use Rattle.page_server.specs.declared.page.request.Body.TheVariants.{Bytes}

-- the body behind a head of so many bytes has arrived with so many; one that is refused is not waited for
abbrev pub is_whole : Body → (head arrived : ℕ) → Bool
is_whole (Bytes count) head arrived = nat_le (head + count) arrived
is_whole other head arrived = true

-- A request may take 3,000 milliseconds, however many reads it takes.
abbrev pub request_wait_ms : ℕ → ℕ
request_wait_ms passed = 3000 - passed

-- A whole answer, or an event of an event stream, may take 5,000 milliseconds, and one more for each 100 bytes of it that the
-- system has taken.
abbrev pub answer_ms : ℕ → ℕ
answer_ms sent = 5000 + sent / 100

-- A write of an answer waits at most 3,000 milliseconds, and not beyond the answer's time: 0 if that is over.
abbrev pub write_wait_ms : ℕ → ℕ → ℕ
write_wait_ms passed sent = min 3000 (answer_ms sent - passed)

-- A piece of a file may take 10,000 milliseconds, whatever the whole file takes.
abbrev pub piece_wait_ms : ℕ → ℕ
piece_wait_ms passed = 10000 - passed
