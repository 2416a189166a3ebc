-- Counts of connections that one more joins, and one leaves.
use Rattle.std.proofs.Common.{◌≡◌, ◌<◌, ◌≤◌, ℕ, ◌+◌, ◌==◌, ◌&&◌, Bool, true, false, cond, if◌then◌else◌, not, List, [], ◌∷◌, ◌++◌, length, filter, refl, sym, ap, ◌∙◌, arith}
use Rattle.cip_productions.specs.declared.kind.Kind.TheVariants.{ListenOnly}
use Rattle.cip_productions.specs.Kinds.{is_owner, same_kind}
use Rattle.adapter_table.specs.Connections.{Row}
use Rattle.adapter_table.specs.Rows.{is_established, drives, supports}
use Rattle.app_rules.specs.declared.counts.Count.{Count}
use Rattle.app_rules.specs.Counts.{number_at, total, more_if, less_if, AreCounts}
use Rattle.app_rules.proofs.Counting.{one_at, number_more, number_less, total_more, total_less, total_one_less, counts_more, counts_less}

pub filter_last : (test : Row → Bool) (rows : List Row) (row : Row) → length (filter test (rows ++ row ∷ [])) ≡ length (filter test rows) + (if test row then 1 else 0)
filter_last test [] row = split (test row)
  where
    split : (b : Bool) → length (cond b (row ∷ []) []) ≡ 0 + (if b then 1 else 0)
    split true = refl
    split false = refl
filter_last test (x ∷ rows) row = split (test x) (filter_last test rows row)
  where
    split : (b : Bool) → length (filter test (rows ++ row ∷ [])) ≡ length (filter test rows) + (if test row then 1 else 0)
        → length (cond b (x ∷ filter test (rows ++ row ∷ [])) (filter test (rows ++ row ∷ []))) ≡ length (cond b (x ∷ filter test rows) (filter test rows)) + (if test row then 1 else 0)
    split true rest = omega arith
    split false rest = rest

pub filter_among : (test : Row → Bool) (front : List Row) (row : Row) (back : List Row) → length (filter test (front ++ row ∷ back)) ≡ length (filter test (front ++ back)) + (if test row then 1 else 0)
filter_among test [] row back = split (test row)
  where
    split : (b : Bool) → length (cond b (row ∷ filter test back) (filter test back)) ≡ length (filter test back) + (if b then 1 else 0)
    split true = omega arith
    split false = omega arith
filter_among test (x ∷ front) row back = split (test x) (filter_among test front row back)
  where
    split : (b : Bool) → length (filter test (front ++ row ∷ back)) ≡ length (filter test (front ++ back)) + (if test row then 1 else 0)
        → length (cond b (x ∷ filter test (front ++ row ∷ back)) (filter test (front ++ row ∷ back))) ≡ length (cond b (x ∷ filter test (front ++ back)) (filter test (front ++ back))) + (if test row then 1 else 0)
    split true rest = omega arith
    split false rest = rest

-- ---- a connection counts at one point

itself : (a : ℕ) → a == a ≡ true
itself a = grind arith

both_step : (a b c e : Bool) → e ≡ true → ◌≡◌ {A = ℕ} (if a && (b && c) then 1 else 0) (if a && (b && e) then (if c then 1 else 0) else 0)
both_step true true true e is = rw is refl
both_step true true false e is = rw is refl
both_step true false c e is = refl
both_step false b c e is = refl

pub drives_at : (row : Row) (point : ℕ) → ◌≡◌ {A = ℕ} (if drives point row then 1 else 0) (if drives row.consumed row then one_at row.consumed point else 0)
drives_at row point = both_step (is_established row) (is_owner row.kind) (row.consumed == point) (row.consumed == row.consumed) (itself row.consumed)

supports_step : (a b c e f : Bool) → e ≡ true → ◌≡◌ {A = ℕ} (if (a && (b && c)) && f then 1 else 0) (if (a && (b && e)) && f then (if c then 1 else 0) else 0)
supports_step true true true e true is = rw is refl
supports_step true true false e true is = rw is refl
supports_step true true true e false is = rw is refl
supports_step true true false e false is = rw is refl
supports_step true false c e f is = refl
supports_step false b c e f is = refl

pub supports_at : (row : Row) (point : ℕ) → ◌≡◌ {A = ℕ} (if supports ListenOnly point row then 1 else 0) (if supports ListenOnly row.produced row then one_at row.produced point else 0)
supports_at row point = supports_step (is_established row) row.multicast (row.produced == point) (row.produced == row.produced) (not (same_kind row.kind ListenOnly)) (itself row.produced)

-- ---- one more

pub number_in_more : (b : Bool) (point other : ℕ) (counts : List Count) → number_at other (more_if b point counts) ≡ number_at other counts + (if b then one_at point other else 0)
number_in_more true point other counts = number_more point other counts
number_in_more false point other counts = omega arith

pub number_in_less : (b : Bool) (point other : ℕ) (counts : List Count) → AreCounts counts → (b ≡ true → 1 ≤ number_at point counts) → number_at other (less_if b point counts) + (if b then one_at point other else 0) ≡ number_at other counts
number_in_less true point other counts each some = number_less point other counts each (some refl)
number_in_less false point other counts each some = omega arith

pub total_in_more : (b : Bool) (point : ℕ) (counts : List Count) → total counts < 64 → total (more_if b point counts) ≤ 64
total_in_more true point counts few = let more = total_more point counts in omega arith
total_in_more false point counts few = omega arith

pub total_in_less : (b : Bool) (point : ℕ) (counts : List Count) → total counts ≤ 64 → total (less_if b point counts) ≤ 64
total_in_less true point counts few = let less = total_less point counts in omega arith
total_in_less false point counts few = few

pub counts_in_more : (b : Bool) (point : ℕ) (counts : List Count) → AreCounts counts → AreCounts (more_if b point counts)
counts_in_more true point counts each = counts_more point counts each
counts_in_more false point counts each = each

pub counts_in_less : (b : Bool) (point : ℕ) (counts : List Count) → AreCounts counts → (b ≡ true → 1 ≤ number_at point counts) → AreCounts (less_if b point counts)
counts_in_less true point counts each some = counts_less point counts each (some refl)
counts_in_less false point counts each some = each

-- each count is that of a filter, with one more
pub filter_more : (b : Bool) (test : ℕ → Row → Bool) (at : ℕ) (row : Row) (counts : List Count) → ((point : ℕ) → ◌≡◌ {A = ℕ} (if test point row then 1 else 0) (if b then one_at at point else 0)) → (rows : List Row) → ((point : ℕ) → number_at point counts ≡ length (filter (test point) rows)) → (point : ℕ) → number_at point (more_if b at counts) ≡ length (filter (test point) (rows ++ row ∷ []))
filter_more b test at row counts here rows are point =
    let more = number_in_more b at point counts in
    let last = filter_last (test point) rows row in
    let same = are point in
    let one = here point in
    more ∙ ap (λ n. n + (if b then one_at at point else 0)) same ∙ ap (λ n. length (filter (test point) rows) + n) (sym one) ∙ sym last

pub filter_less : (b : Bool) (test : ℕ → Row → Bool) (at : ℕ) (row : Row) (counts : List Count) → ((point : ℕ) → ◌≡◌ {A = ℕ} (if test point row then 1 else 0) (if b then one_at at point else 0)) → AreCounts counts → (b ≡ true → 1 ≤ number_at at counts) → (front back : List Row) → ((point : ℕ) → number_at point counts ≡ length (filter (test point) (front ++ row ∷ back))) → (point : ℕ) → number_at point (less_if b at counts) ≡ length (filter (test point) (front ++ back))
filter_less b test at row counts here each some front back are point =
    let less = number_in_less b at point counts each some in
    let among = filter_among (test point) front row back in
    let same = are point in
    cancel (number_at point (less_if b at counts)) (length (filter (test point) (front ++ back))) (if b then one_at at point else 0) (less ∙ same ∙ among ∙ ap (λ n. length (filter (test point) (front ++ back)) + n) (here point))
  where
    cancel : (m n k : ℕ) → m + k ≡ n + k → m ≡ n
    cancel m n k is = omega arith

-- ---- and those that are counted

abbrev one_if : Bool → ℕ
one_if b = if b then 1 else 0

pub all_more : (b : Bool) (point : ℕ) (counts : List Count) → total (more_if b point counts) ≡ total counts + one_if b
all_more true point counts = total_more point counts
all_more false point counts = omega arith

pub all_less : (b : Bool) (point : ℕ) (counts : List Count) → AreCounts counts → (b ≡ true → 1 ≤ number_at point counts) → total (less_if b point counts) + one_if b ≡ total counts
all_less true point counts each some = total_one_less point counts each (some refl)
all_less false point counts each some = omega arith

pub all_filtered_more : (b : Bool) (test : Row → Bool) (at : ℕ) (row : Row) (counts : List Count) → b ≡ test row → (rows : List Row) → total counts ≡ length (filter test rows) → total (more_if b at counts) ≡ length (filter test (rows ++ row ∷ []))
all_filtered_more b test at row counts is rows are =
    all_more b at counts ∙ ap (λ n. n + one_if b) are ∙ ap (λ (c : Bool). length (filter test rows) + one_if c) is ∙ sym (filter_last test rows row)

pub all_filtered_less : (b : Bool) (test : Row → Bool) (at : ℕ) (row : Row) (counts : List Count) → b ≡ test row → AreCounts counts → (b ≡ true → 1 ≤ number_at at counts) → (front back : List Row) → total counts ≡ length (filter test (front ++ row ∷ back)) → total (less_if b at counts) ≡ length (filter test (front ++ back))
all_filtered_less b test at row counts is each some front back are =
    cancel (total (less_if b at counts)) (length (filter test (front ++ back))) (one_if b) (all_less b at counts each some ∙ are ∙ filter_among test front row back ∙ ap (λ (c : Bool). length (filter test (front ++ back)) + one_if c) (sym is))
  where
    cancel : (m n k : ℕ) → m + k ≡ n + k → m ≡ n
    cancel m n k is = omega arith
