-- The law of a record on its way: what the writer of its files takes is a beginning of what its recorder was answered is taken.
use Rattle.std.specs.Prelude.{ℕ, ◌≡◌, Bool, true, List, [], ◌∷◌, ◌++◌, Option, Some, None, Result, Ok, Err}
use Rattle.station_rim.specs.RecordWays.{RecordWay, is_drained, new_way, taken_entry, way_after_take, with_end, with_entry, with_note}
use Rattle.station_rim.specs.declared.record_way.PutFault.{PutFault}

-- a record on its way, the entries that it accepted, and those that its writer took
pub record Account : Type 0 where
  pub way : RecordWay
  pub accepted : List (List ℕ)
  pub taken : List (List ℕ)

abbrev pub fresh_account : ℕ → ℕ → Account
fresh_account most_bytes most_entries = record { way = new_way most_bytes most_entries; accepted = []; taken = [] }

-- an entry is put in, with what is answered; the writer takes the oldest one; it notes what became of it; none comes
-- any more
pub data Act : Type 0 where
  Put : List ℕ → Result Unit PutFault → Act
  Take : Act
  Note : Bool → Act
  End : Act

abbrev pub with_put : List ℕ → Result Unit PutFault → Account → Account
with_put entry (Ok done) account = record { way = with_entry account.way entry; accepted = account.accepted ++ entry ∷ []; taken = account.taken }
with_put entry (Err fault) account = account

abbrev pub with_taken : Option (List ℕ × Bool) → List (List ℕ) → List (List ℕ)
with_taken None taken = taken
with_taken (Some entry) taken = taken ++ entry.0 ∷ []

abbrev pub account_after : Act → Account → Account
account_after (Put entry said) account = with_put entry said account
account_after Take account = record { way = way_after_take account.way; accepted = account.accepted; taken = with_taken (taken_entry account.way) account.taken }
account_after (Note failed) account = record account { way = with_note account.way failed }
account_after End account = record account { way = with_end account.way }

abbrev pub account_through : List Act → Account → Account
account_through [] account = account
account_through (act ∷ acts) account = account_through acts (account_after act account)

-- the writer took, in order, what was accepted, but for what is on its way
abbrev pub InOrder : Account → Type 0
InOrder account = account.accepted ≡ account.taken ++ account.way.queue.pieces

-- nothing is on its way any more, so it took all
abbrev pub TookAll : Account → Type 0
TookAll account = is_drained account.way ≡ true → account.taken ≡ account.accepted

abbrev pub EntriesAreWrittenInOrder : Type 0
EntriesAreWrittenInOrder = (most_bytes most_entries : ℕ) (acts : List Act) →
    let account : Account = account_through acts (fresh_account most_bytes most_entries) in InOrder account × TookAll account
