-- A timer `Wheel` as contracts see it: the time, the capacity, and the deadline of each armed token.
-- Times are in milliseconds. A device arms a token for each watchdog and for each production (Volume 1,
-- chapter 3, connection timing).
use Rattle.std.specs.Prelude.{◌≡◌, ℕ, ◌<◌, ◌≤◌, ◌⊎◌, ◌↔◌, List, ◌++◌, Some, not, nat_le, unwrap_or, Contains, AllPairs, refl}
use Rattle.std.specs.Coded.{Coded, code_by, coded×, coded_ℕ}
use Rattle.std.specs.Ordering.{nat_cmp}
use Rattle.std.specs.FinMap as map
use Rattle.timer_wheel.specs.declared.Token.{Token}

-- the deadline of each token that has one
abbrev pub Deadlines : Type 0
Deadlines = map.FinMap nat_cmp ℕ

-- a wheel: its clock, the greatest number of armed tokens, and the armed tokens
pub record Timers : Type 0 where
  pub time : ℕ
  pub capacity : ℕ
  pub armed : Deadlines

-- a wheel is stored as its three parts
abbrev pub timers_code : Coded Timers
timers_code =
    code_by
    (ℕ × (ℕ × Deadlines))
    (coded× coded_ℕ (coded× coded_ℕ (map.code coded_ℕ coded_ℕ)))
    (λ w. (w.time, (w.capacity, w.armed)))
    (λ p. record { time = p.0; capacity = p.1.0; armed = p.1.1 })
    (λ _. refl)

-- the token is armed, and its deadline is at or before this time
abbrev pub IsDue : Deadlines → ℕ → ℕ → Type 0
IsDue armed time token = (deadline : ℕ) × (map.get armed token ≡ Some deadline) × (deadline ≤ time)

-- the tokens with a deadline after this time
abbrev pub later_than : ℕ → Deadlines → Deadlines
later_than time armed = map.retain_keys armed (λ token. not (nat_le (unwrap_or (map.get armed token) 0) time))

-- the first token comes before the second: its deadline is earlier, or is the same and its number is less
abbrev pub ComesBefore : Deadlines → Token → Token → Type 0
ComesBefore armed s t =
    let first = unwrap_or (map.get armed s.0) 0 in
    let second = unwrap_or (map.get armed t.0) 0 in
    (first < second) ⊎ ((first ≡ second) × (s.0 < t.0))

-- the new list is the old one, followed by the tokens that are due at this time, each once, by deadline
-- and then by token
pub record Fires (armed : Deadlines) (time : ℕ) (old new : List Token) : Type 0 where
  pub fired : List Token
  pub appended : new ≡ old ++ fired
  pub due : (token : Token) → Contains fired token ↔ IsDue armed time token.0
  pub ordered : AllPairs (ComesBefore armed) fired
