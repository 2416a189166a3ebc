-- The size of an answer (Volume 1, chapter 3, connection sizes; Volume 2, chapter 2, encapsulation messages and common
-- packet format).
use Rattle.std.specs.Prelude.{ℕ, ◌≡◌, ◌≤◌, length, Ok}
use Rattle.std.specs.List.{AllByRecursion}
use Rattle.cip_events.specs.declared.event.Answer.{Answer}
use Rattle.cip_events.specs.declared.event.Event.{Event}
use Rattle.cip_events.specs.declared.event.Frame.{Frame}
use Rattle.cip_events.specs.declared.event.OutgoingDatagram.{OutgoingDatagram}
use Rattle.cip_tables.specs.declared.table.DeviceTable.{DeviceTable}
use Rattle.cip_tables.specs.Step.{step}
use Rattle.cip_tables.specs.Whole.{IsWholeDevice}

-- the most frames of an answer, and its most datagrams
abbrev pub most_sent : ℕ
most_sent = 64

-- the most bytes of a frame or a datagram
abbrev pub longest_sent : ℕ
longest_sent = 2048

abbrev pub IsShortFrame : Frame → Type 0
IsShortFrame frame = length frame.bytes ≤ longest_sent

abbrev pub IsShortDatagram : OutgoingDatagram → Type 0
IsShortDatagram datagram = length datagram.bytes ≤ longest_sent

-- the answer has at most so many frames and datagrams, and each is short
pub record IsSmall (answer : Answer) : Type 0 where
  pub few_frames : length answer.frames ≤ most_sent
  pub short_frames : AllByRecursion IsShortFrame answer.frames
  pub few_datagrams : length answer.datagrams ≤ most_sent
  pub short_datagrams : AllByRecursion IsShortDatagram answer.datagrams

-- each answer of a device whose table is whole is small
abbrev pub AnswersAreSmall : Type 0
AnswersAreSmall =
    (t : DeviceTable) (event : Event) (answer : Answer) (next : DeviceTable) →
    IsWholeDevice t → step t event ≡ Ok (answer, next) → IsSmall answer
