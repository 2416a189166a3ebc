-- What holds of each connection of a list, or of each two, holds of those that are left, of one that is found, and
-- so on.
use Rattle.std.proofs.Common.{◌≡◌, Bool, true, false, cond, List, [], ◌∷◌, ◌++◌, map, filter, find, Option, Some, sym, subst}
use Rattle.adapter_table.specs.Connections.{Row}
use Rattle.adapter_table.specs.Rows.{Each, EachTwo}

pub each_filter : (P : Row → Type 0) (p : Row → Bool) (rows : List Row) → Each P rows → Each P (filter p rows)
each_filter P p [] all = tt
each_filter P p (row ∷ rows) all =
    elim (p row) as (λ b. Each P (cond b (row ∷ filter p rows) (filter p rows))) [
      | true ↦ (all.0, each_filter P p rows all.1)
      | false ↦ each_filter P p rows all.1
    ]

pub each_append : (P : Row → Type 0) (rows : List Row) (new : Row) → Each P rows → P new → Each P (rows ++ new ∷ [])
each_append P [] new all is = (is, tt)
each_append P (row ∷ rows) new all is = (all.0, each_append P rows new all.1 is)

pub each_map : (P : Row → Type 0) (f : Row → Row) → ((row : Row) → P row → P (f row)) → (rows : List Row) → Each P rows → Each P (map f rows)
each_map P f keeps [] all = tt
each_map P f keeps (row ∷ rows) all = (keeps row all.0, each_map P f keeps rows all.1)

found_step : (b : Bool) (P : Row → Type 0) (first row : Row) (rest : Option Row) → cond b (Some first) rest ≡ Some row → P first → (rest ≡ Some row → P row) → P row
found_step true P first row rest is here more = let same : first ≡ row = cc in subst P same here
found_step false P first row rest is here more = more is

pub each_found : (P : Row → Type 0) (p : Row → Bool) (rows : List Row) (row : Row) → find p rows ≡ Some row → Each P rows → P row
each_found P p [] row is all = absurd cc
each_found P p (first ∷ rows) row is all = found_step (p first) P first row (find p rows) is all.0 (λ later. each_found P p rows row later all.1)

pub each_weak : (P Q : Row → Type 0) → ((row : Row) → P row → Q row) → (rows : List Row) → Each P rows → Each Q rows
each_weak P Q weak [] all = tt
each_weak P Q weak (row ∷ rows) all = (weak row all.0, each_weak P Q weak rows all.1)

-- where one thing holds of each before a change, and another after it
pub each_changed : (P Q : Row → Type 0) (f : Row → Row) → ((row : Row) → P row → Q (f row)) → (rows : List Row) → Each P rows → Each Q (map f rows)
each_changed P Q f changes [] all = tt
each_changed P Q f changes (row ∷ rows) all = (changes row all.0, each_changed P Q f changes rows all.1)

pub each_both : (P Q S : Row → Type 0) → ((row : Row) → P row → Q row → S row) → (rows : List Row) → Each P rows → Each Q rows → Each S rows
each_both P Q S both [] first second = tt
each_both P Q S both (row ∷ rows) first second = (both row first.0 second.0, each_both P Q S both rows first.1 second.1)

-- ---- each two

pub two_filter : (R : Row → Row → Type 0) (p : Row → Bool) (rows : List Row) → EachTwo R rows → EachTwo R (filter p rows)
two_filter R p [] all = tt
two_filter R p (row ∷ rows) all =
    elim (p row) as (λ b. EachTwo R (cond b (row ∷ filter p rows) (filter p rows))) [
      | true ↦ (each_filter (R row) p rows all.0, two_filter R p rows all.1)
      | false ↦ two_filter R p rows all.1
    ]

pub two_append : (R : Row → Row → Type 0) (rows : List Row) (new : Row) → EachTwo R rows → Each (λ row. R row new) rows → EachTwo R (rows ++ new ∷ [])
two_append R [] new all fits = (tt, tt)
two_append R (row ∷ rows) new all fits = (each_append (R row) rows new all.0 fits.0, two_append R rows new all.1 fits.1)

pub two_map : (R : Row → Row → Type 0) (f : Row → Row) → ((a b : Row) → R a b → R (f a) (f b)) → (rows : List Row) → EachTwo R rows → EachTwo R (map f rows)
two_map R f keeps [] all = tt
two_map R f keeps (row ∷ rows) all = (each_changed (R row) (R (f row)) f (keeps row) rows all.0, two_map R f keeps rows all.1)

pub two_weak : (R S : Row → Row → Type 0) → ((a b : Row) → R a b → S a b) → (rows : List Row) → EachTwo R rows → EachTwo S rows
two_weak R S weak [] all = tt
two_weak R S weak (row ∷ rows) all = (each_weak (R row) (S row) (weak row) rows all.0, two_weak R S weak rows all.1)

two_step : (b : Bool) (R : Row → Row → Type 0) (p : Row → Bool) (row found : Row) (rows : List Row) → ((a b : Row) → R a b → R b a) → R found found → cond b (Some row) (find p rows) ≡ Some found → Each (R row) rows → (find p rows ≡ Some found → Each (λ other. R other found) rows) → Each (λ other. R other found) (row ∷ rows)
two_step true R p row found rows back itself is all more =
    let same : row ≡ found = cc in
    (subst (λ (r : Row). R r found) (sym same) itself, each_weak (R row) (λ other. R other found) (λ other holds. back found other (subst (λ (r : Row). R r other) same holds)) rows all)
two_step false R p row found rows back itself is all more = (each_found (R row) p rows found is all, more is)

-- what holds of each two either way round holds of each and one that is found
pub two_found : (R : Row → Row → Type 0) → ((a b : Row) → R a b → R b a) → (p : Row → Bool) (rows : List Row) (found : Row) → find p rows ≡ Some found → R found found → EachTwo R rows → Each (λ row. R row found) rows
two_found R back p [] found is itself all = tt
two_found R back p (row ∷ rows) found is itself all =
    two_step (p row) R p row found rows back itself is all.0 (λ later. two_found R back p rows found later itself all.1)
