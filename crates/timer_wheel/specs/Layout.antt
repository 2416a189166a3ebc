-- The layout of a `Wheel`: each timer has a key, its index among the timers, and each key is in the list of a slot,
-- or in list 768 if it is free. No public clause cites this module.
use Rattle.std.specs.Prelude.{◌≡◌, ◌≢◌, ◌⊎◌, ℕ, ◌+◌, ◌^◌, ◌<◌, ◌≤◌, List, [], ◌∷◌, length, Option, Some, None, IsSomeAnd, is_some, count_by, slice_index_or, Contains, AllPairs}
use Rattle.std.specs.FinMap as map
use Rattle.futures.specs.LinkedLists.{LinkedLists, list_of, key_limit}
use Rattle.timer_wheel.specs.declared.timer.Timer.{Timer}
use Rattle.timer_wheel.specs.declared.Token.{Token}
use Rattle.timer_wheel.specs.Timers.{Deadlines}
use Rattle.timer_wheel.specs.Levels.{slot_of}

-- the timer of a key
abbrev pub timer_at : List (Option Timer) → ℕ → Option Timer
timer_at timers key = slice_index_or timers key None

-- the timer of a key has this token
abbrev pub HasToken : List (Option Timer) → ℕ → ℕ → Type 0
HasToken timers token key = IsSomeAnd (timer_at timers key) (λ t. t.token.0 ≡ token)

-- the tokens beside the timers: at each key that has a timer, its token
pub record Mirrors (tokens : List Token) (timers : List (Option Timer)) : Type 0 where
  pub size : length tokens ≡ length timers
  pub same : (key : ℕ) (t : Timer) (other : Token) → timer_at timers key ≡ Some t → slice_index_or tokens key other ≡ t.token

-- each key that still has a timer has its former timer
abbrev pub Clears : (old new : List (Option Timer)) → Type 0
Clears old new = (key : ℕ) (t : Timer) → timer_at new key ≡ Some t → timer_at old key ≡ Some t

-- the number of keys with a timer
abbrev pub timer_count : List (Option Timer) → ℕ
timer_count timers = count_by is_some timers

-- the deadlines of these keys' tokens
abbrev pub armed_of : List (Option Timer) → Deadlines
armed_of [] = map.empty
armed_of (None ∷ ts) = armed_of ts
armed_of (Some t ∷ ts) = map.insert (armed_of ts) t.token.0 t.deadline

-- no token has two keys
abbrev pub IsUnique : List (Option Timer) → Type 0
IsUnique [] = Unit {0}
IsUnique (None ∷ ts) = IsUnique ts
IsUnique (Some t ∷ ts) = (map.get (armed_of ts) t.token.0 ≡ None) × IsUnique ts

-- a key without a timer is in the list of the free ones, and one with a timer in a list by R
abbrev pub Agree : (Timer → ℕ → Type 0) → Option Timer → Option ℕ → Type 0
Agree R None o = o ≡ Some 768
Agree R (Some t) None = ⊥
Agree R (Some t) (Some list) = R t list

-- the list is the slot of a timer that lies ahead, within reach
pub record IsPlaced (now : ℕ) (t : Timer) (list : ℕ) : Type 0 where
  pub ahead : now ≤ t.deadline
  pub in_reach : t.deadline < now + 2 ^ 24
  pub slot : list ≡ slot_of t.deadline now

-- during a step, when the slots below `from` are done: the timer is in its slot at the new time, or still in a later
-- slot
pub record IsAt (before now from : ℕ) (t : Timer) (list : ℕ) : Type 0 where
  pub ahead : before ≤ t.deadline
  pub in_reach : t.deadline < before + 2 ^ 24
  pub stands : ((now < t.deadline) × (list ≡ slot_of t.deadline now) × (list < from)) ⊎ ((list ≡ slot_of t.deadline before) × (from ≤ list))

-- timers of these slots that are not due belong in earlier slots at the new time
abbrev pub MovesDown : (before now from to : ℕ) → Type 0
MovesDown before now from to =
    (d : ℕ) → before ≤ d → d < before + 2 ^ 24
    → from ≤ slot_of d before → slot_of d before < to → now < d → slot_of d now < from

-- each key is in the list of its timer, and no token has two keys
pub record IsLaidOut (R : Timer → ℕ → Type 0) (slots : LinkedLists) (timers : List (Option Timer)) : Type 0 where
  pub room : length timers ≤ key_limit slots
  pub agree : (key : ℕ) → key < length timers → Agree R (timer_at timers key) (list_of slots key)
  pub beyond : (key : ℕ) → length timers ≤ key → list_of slots key ≡ None
  pub unique : IsUnique timers

-- these due timers were removed, and the others are left
pub record IsSplit (now : ℕ) (armed : Deadlines) (due : List Timer) (left : Deadlines) : Type 0 where
  pub taken : (t : Timer) → Contains due t → (map.get armed t.token.0 ≡ Some t.deadline) × (t.deadline ≤ now) × (map.get left t.token.0 ≡ None)
  pub others : (q : ℕ) → (map.get left q ≡ map.get armed q) ⊎ ((t : Timer) × Contains due t × (t.token.0 ≡ q))
  pub apart : AllPairs (λ (s t : Timer). s.token.0 ≢ t.token.0) due

-- further due timers were removed
abbrev pub TakesDue : (now : ℕ) (old new : List Timer) (timers timers' : List (Option Timer)) → Type 0
TakesDue now old new timers timers' =
    (armed : Deadlines) → IsSplit now armed old (armed_of timers) → IsSplit now armed new (armed_of timers')

-- the invariant of a wheel between calls
pub record IsSound (now : ℕ) (slots : LinkedLists) (timers : List (Option Timer)) (tokens : List Token) (due : List Timer) (due_room : ℕ) : Type 0 where
  pub laid_out : IsLaidOut (IsPlaced now) slots timers
  pub mirrored : Mirrors tokens timers
  pub now_fits : now ≤ 2 ^ 48
  pub nothing_due : due ≡ []
  pub room : length timers ≤ due_room
