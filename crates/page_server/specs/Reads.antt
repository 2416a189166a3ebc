-- How far a request is read: until it is whole, is none, or is too large, and what each read of it brings.
use Rattle.std.specs.Prelude.{ℕ, ◌==◌, nat_le, if◌then◌else◌, Option, Some, None, Result, Ok, Err}
use Rattle.std.specs.declared.io.ErrorKind.{ErrorKind}
use Rattle.std.specs.declared.io.ErrorKind.TheVariants.{Interrupted, TimedOut, WouldBlock}
use Rattle.page_server.specs.declared.page.answers.PageRefusal.TheVariants as refusal
use Rattle.page_server.specs.declared.page.request.PageRequest.{PageRequest}
use Rattle.page_server.specs.declared.page.requests.RequestReading.{RequestReading}
use Rattle.page_server.specs.declared.page.requests.RequestReading.TheVariants as reading
use Rattle.page_server.specs.declared.talk.Unheard.{Unheard}
use Rattle.page_server.specs.declared.talk.Unheard.TheVariants.{Left, Refused}
use Rattle.page_server.specs.Waits.{is_whole}

-- a request that is not whole with so many bytes: it has at most 12,288, its body included
abbrev pub not_whole : (arrived : ℕ) → Result (Option (PageRequest × ℕ)) Unheard
not_whole arrived = if nat_le 12288 arrived then Err (Refused refusal.TooLarge) else Ok None

-- the request that so many bytes are, with the length of its head; none as long as more is to be read
abbrev pub request_in : RequestReading → (arrived : ℕ) → Result (Option (PageRequest × ℕ)) Unheard
request_in (reading.Whole request head) arrived = if is_whole request.body head arrived then Ok (Some (request, head)) else not_whole arrived
request_in reading.Bad arrived = Err (Refused refusal.Bad)
request_in reading.Partial arrived = not_whole arrived

-- a read of no bytes is the end of the stream
abbrev pub counted_read : ℕ → Result ℕ Unheard
counted_read count = if count == 0 then Err Left else Ok count

-- a read that a signal interrupts brings nothing, one that waits too long is late, and after any other error the browser has left
abbrev pub failed_read : ErrorKind → Result ℕ Unheard
failed_read Interrupted = Ok 0
failed_read WouldBlock = Err (Refused refusal.Late)
failed_read TimedOut = Err (Refused refusal.Late)
failed_read kind = Err Left

-- how many bytes a read of a request brings
abbrev pub after_read : Result ℕ ErrorKind → Result ℕ Unheard
after_read (Ok count) = counted_read count
after_read (Err kind) = failed_read kind
