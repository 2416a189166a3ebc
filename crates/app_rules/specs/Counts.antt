-- Running counts of connections at points: the owners of each output, and those that support the listen-only
-- connections of each input (Volume 1, chapter 3, application connection types).
use Rattle.std.specs.Prelude.{ℕ, ◌≡◌, ◌≤◌, ◌+◌, ◌-◌, ◌==◌, Bool, true, false, if◌then◌else◌, List, [], ◌∷◌, length, filter, find, Option, Some, None}
use Rattle.cip_productions.specs.declared.kind.Kind.TheVariants.{ListenOnly}
use Rattle.adapter_table.specs.Connections.{Row}
use Rattle.adapter_table.specs.Rows.{drives, supports}
use Rattle.app_rules.specs.declared.counts.Count.{Count}

-- COUNTS AT POINTS

abbrev pub is_at : ℕ → Count → Bool
is_at point count = count.point == point

abbrev pub number_in : Option Count → ℕ
number_in None = 0
number_in (Some count) = count.number

-- the count at a point
abbrev pub number_at : ℕ → List Count → ℕ
number_at point counts = number_in (find (is_at point) counts)

-- the sum of all counts
abbrev pub total : List Count → ℕ
total [] = 0
total (count ∷ counts) = count.number + total counts

-- the counts with one more at a point
abbrev pub one_more : ℕ → List Count → List Count
one_more point [] = record { point = point; number = 1 } ∷ []
one_more point (count ∷ counts) = if is_at point count then record count { number = count.number + 1 } ∷ counts else count ∷ one_more point counts

abbrev pub less : Count → List Count → List Count
less count counts = if count.number == 1 then counts else record count { number = count.number - 1 } ∷ counts

-- the counts with one less at a point
abbrev pub one_less : ℕ → List Count → List Count
one_less point [] = []
one_less point (count ∷ counts) = if is_at point count then less count counts else count ∷ one_less point counts

abbrev pub more_if : Bool → ℕ → List Count → List Count
more_if true point counts = one_more point counts
more_if false point counts = counts

abbrev pub less_if : Bool → ℕ → List Count → List Count
less_if true point counts = one_less point counts
less_if false point counts = counts

-- each count is at least one, and no two are of one point
abbrev pub AreCounts : List Count → Type 0
AreCounts [] = Unit {0}
AreCounts (count ∷ counts) = (1 ≤ count.number) × (number_at count.point counts ≡ 0) × AreCounts counts

-- COUNTS OF CONNECTIONS

pub record Counts : Type 0 where
  pub owners : List Count
  pub supporters : List Count

-- the connection is the established owner of its output
abbrev pub is_driver : Row → Bool
is_driver row = drives row.consumed row

-- the connection supports the listen-only ones of its input
abbrev pub is_supporter : Row → Bool
is_supporter row = supports ListenOnly row.produced row

-- each count is that of the established owners of the output, or of those that support the input's listen-only
-- connections, among these connections, and no others are counted
pub record AreCounted (counts : Counts) (rows : List Row) : Type 0 where
  pub owners : (point : ℕ) → number_at point counts.owners ≡ length (filter (drives point) rows)
  pub supporters : (point : ℕ) → number_at point counts.supporters ≡ length (filter (supports ListenOnly point) rows)
  pub all_owners : total counts.owners ≡ length (filter is_driver rows)
  pub all_supporters : total counts.supporters ≡ length (filter is_supporter rows)

-- the connection is counted
pub record HasJoined (row : Row) (counts : Counts) : Type 0 where
  pub owner : is_driver row ≡ true → 1 ≤ number_at row.consumed counts.owners
  pub supporter : is_supporter row ≡ true → 1 ≤ number_at row.produced counts.supporters

-- the invariant of `Rules`
pub record AreRules (owned : List Count) (owned_space : ℕ) (supported : List Count) (supported_space : ℕ) : Type 0 where
  pub owners : AreCounts owned
  pub supporters : AreCounts supported
  pub few_owners : total owned ≤ 64
  pub few_supporters : total supported ≤ 64
  pub owner_space : 64 ≤ owned_space
  pub supporter_space : 64 ≤ supported_space
