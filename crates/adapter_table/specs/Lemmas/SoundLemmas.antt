-- What keeps the rows sound: some are taken out, one is appended.
use Rattle.std.proofs.Common.{◌≡◌, ◌≤◌, ◌<◌, ℕ, ◌+◌, Bool, true, false, cond, not, ◌||◌, ◌&&◌, nat_le, ◌==◌, List, [], ◌∷◌, ◌++◌, length, filter, find, Option, Some, refl, sym, ◌∙◌, ap, arith, length-append}
use Rattle.std.specs.List.{list_any}
use Rattle.std.proofs.lemmas.Bool.Decides.{nat_tests}
use Rattle.std.proofs.lemmas.Grind.{common_steps}
use Rattle.std.proofs.lemmas.List.Elements.{filter-append}
use Rattle.std.proofs.lemmas.List.Folds.{list_any-append}
use Rattle.std.proofs.lemmas.Bool.{or_parts, not-false, ne_eqb}
use Rattle.cip_types.specs.declared.names.Triad.{Triad}
use Rattle.cip_types.specs.declared.names.ConnId.{ConnId}
use Rattle.adapter_table.specs.Connections.{Row}
use Rattle.adapter_table.specs.Rows.{same_triad, has_triad, drives, drivers, others, is_timed_out}
use Rattle.cip_types.specs.Ids.{end_number, id_at, with_block}
use Rattle.adapter_table.specs.Opening.{is_opened_as, is_replaced_by}
use Rattle.adapter_table.specs.Sound.{TriadsDiffer, has_o_t_id, IdsDiffer, IdsAreDrawn}
use Rattle.adapter_table.specs.Sound.{IsDrawn as Drawn}
use Rattle.adapter_table.specs.EachLemmas.{each_filter, each_weak, each_append}
use Rattle.cip_types.specs.declared.ids.IdBlock.{IdBlock}
use Rattle.cip_types.specs.IdLaws.{IsLeft, ids_stay, next_differs}

-- ---- some are taken out

pub count_filter : (p q : Row → Bool) (rows : List Row) → length (filter q (filter p rows)) ≤ length (filter q rows)
count_filter p q [] = omega arith
count_filter p q (row ∷ rows) = grind (arith, common_steps, count_filter p q rows)

pub length_filter_le : (p : Row → Bool) (rows : List Row) → length (filter p rows) ≤ length rows
length_filter_le p [] = omega arith
length_filter_le p (row ∷ rows) = grind (arith, common_steps, length_filter_le p rows)

pub any_filter : (p q : Row → Bool) (rows : List Row) → list_any q rows ≡ false → list_any q (filter p rows) ≡ false
any_filter p q [] none = refl
any_filter p q (row ∷ rows) none =
    let parts = or_parts (q row) (list_any q rows) none in
    grind (arith, common_steps, parts, any_filter p q rows parts.1)

pub triads_filter : (p : Row → Bool) (rows : List Row) → TriadsDiffer rows → TriadsDiffer (filter p rows)
triads_filter p [] differ = tt
triads_filter p (row ∷ rows) differ =
    elim (p row) as (λ b. TriadsDiffer (cond b (row ∷ filter p rows) (filter p rows))) [
      | true ↦ (any_filter p (has_triad row.triad) rows differ.0, triads_filter p rows differ.1)
      | false ↦ triads_filter p rows differ.1
    ]

pub ids_filter : (p : Row → Bool) (rows : List Row) → IdsDiffer rows → IdsDiffer (filter p rows)
ids_filter p [] differ = tt
ids_filter p (row ∷ rows) differ =
    elim (p row) as (λ b. IdsDiffer (cond b (row ∷ filter p rows) (filter p rows))) [
      | true ↦ (any_filter p (has_o_t_id row.o_t_id) rows differ.0, ids_filter p rows differ.1)
      | false ↦ ids_filter p rows differ.1
    ]

pub drawn_filter : (p : Row → Bool) (ids : List IdBlock) (next_id : ℕ) (rows : List Row) → IdsAreDrawn ids next_id rows → IdsAreDrawn ids next_id (filter p rows)
drawn_filter p ids next_id rows drawn = each_filter (Drawn ids next_id) p rows drawn

-- none passes, so none is kept
pub filter_none : (q : Row → Bool) (rows : List Row) → list_any q rows ≡ false → filter q rows ≡ []
filter_none q [] none = refl
filter_none q (row ∷ rows) none =
    let parts = or_parts (q row) (list_any q rows) none in
    rw parts.0 (filter_none q rows parts.1)

-- ---- triads

pub same_sym : (a b : Triad) → same_triad a b ≡ false → same_triad b a ≡ false
same_sym a b h = grind (arith, nat_tests)

left_step : (b : Bool) (p : Row → Bool) (row : Row) (left : List Row) → p row ≡ b → list_any p left ≡ false → list_any p (cond (not b) (row ∷ left) left) ≡ false
left_step true p row left is none = none
left_step false p row left is none = rw is none

-- once those that pass a test are taken out, none is left
pub none_left : (p : Row → Bool) (rows : List Row) → list_any p (others p rows) ≡ false
none_left p [] = refl
none_left p (row ∷ rows) = left_step (p row) p row (others p rows) refl (none_left p rows)

pub triads_append : (rows : List Row) (new : Row) → TriadsDiffer rows → list_any (has_triad new.triad) rows ≡ false → TriadsDiffer (rows ++ new ∷ [])
triads_append [] new differ none = (refl, tt)
triads_append (row ∷ rows) new differ none =
    let parts = or_parts (has_triad new.triad row) (list_any (has_triad new.triad) rows) none in
    (rw (list_any-append (has_triad row.triad) rows (new ∷ []), differ.0, same_sym row.triad new.triad parts.0) refl, triads_append rows new differ.1 parts.1)

-- ---- ids

-- the next id is that of no row
pub next_is_new : (ids : List IdBlock) (next_id : ℕ) (rows : List Row) → IsLeft ids next_id → IdsAreDrawn ids next_id rows → list_any (has_o_t_id (id_at ids next_id)) rows ≡ false
next_is_new ids next_id [] left drawn = refl
next_is_new ids next_id (row ∷ rows) left drawn =
    let rest = next_is_new ids next_id rows left drawn.1 in
    let own = drawn.0 in
    let other : has_o_t_id (id_at ids next_id) row ≡ false = ne_eqb row.o_t_id.0 (id_at ids next_id).0
    (λ same. next_differs ids next_id row.opening left own.begins own.below (ap (λ (id : ConnId). id.0) (sym own.id) ∙ same)) in
    rw other rest

other_id : (a b : ConnId) → (a.0 == b.0) ≡ false → (b.0 == a.0) ≡ false
other_id a b h = grind (arith, nat_tests)

pub ids_append : (rows : List Row) (new : Row) → IdsDiffer rows → list_any (has_o_t_id new.o_t_id) rows ≡ false → IdsDiffer (rows ++ new ∷ [])
ids_append [] new differ none = (refl, tt)
ids_append (row ∷ rows) new differ none =
    let parts = or_parts (has_o_t_id new.o_t_id row) (list_any (has_o_t_id new.o_t_id) rows) none in
    (rw (list_any-append (has_o_t_id row.o_t_id) rows (new ∷ []), differ.0, other_id row.o_t_id new.o_t_id parts.0) refl, ids_append rows new differ.1 parts.1)

later_row : (ids : List IdBlock) (next_id later : ℕ) (row : Row) → next_id ≤ later → Drawn ids next_id row → Drawn ids later row
later_row ids next_id later row more is = record { id = is.id; begins = is.begins; below = let below = is.below in omega (arith, below, more) }

pub drawn_later : (ids : List IdBlock) (next_id later : ℕ) (rows : List Row) → next_id ≤ later → IdsAreDrawn ids next_id rows → IdsAreDrawn ids later rows
drawn_later ids next_id later rows more drawn = each_weak (Drawn ids next_id) (Drawn ids later) (λ row is. later_row ids next_id later row more is) rows drawn

-- a further block of ids
pub drawn_grown : (ids : List IdBlock) (block : IdBlock) (next_id : ℕ) (rows : List Row) → next_id ≤ end_number ids → IdsAreDrawn ids next_id rows → IdsAreDrawn (with_block ids block) next_id rows
drawn_grown ids block next_id rows left drawn = each_weak (Drawn ids next_id) (Drawn (with_block ids block) next_id)
    (λ row is. let below = is.below in record { id = is.id ∙ sym (ids_stay ids block row.opening (omega (arith, left, below)) is.begins); begins = is.begins; below = below }) rows drawn

-- a row with the next id
pub record IsDrawn (ids : List IdBlock) (next_id : ℕ) (new : Row) : Type 0 where
  pub id : new.o_t_id ≡ id_at ids next_id
  pub opening : new.opening ≡ next_id
  pub left : IsLeft ids next_id

pub drawn_new : (ids : List IdBlock) (next_id : ℕ) (rows : List Row) (new : Row) → IsDrawn ids next_id new → IdsAreDrawn ids next_id rows → list_any (has_o_t_id new.o_t_id) rows ≡ false
drawn_new ids next_id rows new is drawn = rw is.id (next_is_new ids next_id rows is.left drawn)

pub drawn_append : (ids : List IdBlock) (next_id next : ℕ) (rows : List Row) (new : Row) → next_id < next → IsDrawn ids next_id new → IdsAreDrawn ids next_id rows → IdsAreDrawn ids next (rows ++ new ∷ [])
drawn_append ids next_id next rows new more is drawn =
    let opening = is.opening in
    let begins = is.left.begins in
    each_append (Drawn ids next) rows new (drawn_later ids next_id next rows (omega (arith, more)) drawn)
    (record { id = is.id ∙ ap (id_at ids) (sym opening); begins = omega (arith, opening, begins); below = omega (arith, opening, more) })

-- ---- capacity

fewer_step : (b : Bool) (row : Row) (left rows : List Row) → length left ≤ length rows → (b ≡ false → length left + 1 ≤ length rows) → length (cond (not b) (row ∷ left) left) + 1 ≤ length (row ∷ rows)
fewer_step true row left rows le more = omega arith
fewer_step false row left rows le more = let fewer = more refl in omega arith

any_later : (b any : Bool) → (b || any) ≡ true → b ≡ false → any ≡ true
any_later true any is none = absurd cc
any_later false any is none = is

-- where one passes, fewer are left
pub length_others : (p : Row → Bool) (rows : List Row) → list_any p rows ≡ true → length (others p rows) + 1 ≤ length rows
length_others p [] found = absurd cc
length_others p (row ∷ rows) found =
    fewer_step (p row) row (others p rows) rows (length_filter_le (λ r. not (p r)) rows) (λ none. length_others p rows (any_later (p row) (list_any p rows) found none))

opened_step : (b : Bool) (row : Row) (found : Option Row) (rows : List Row) → (b ≡ false → list_any (is_opened_as found) rows ≡ true) → list_any (is_opened_as (cond b (Some row) found)) (row ∷ rows) ≡ true
opened_step true row found rows more = grind (arith, nat_tests)
opened_step false row found rows more = or_right (is_opened_as found row) _ (more refl) where
  or_right : (a b : Bool) → b ≡ true → (a || b) ≡ true
  or_right true b h = refl
  or_right false b h = h

-- the first that passes is among them
any_first : (p : Row → Bool) (rows : List Row) → list_any p rows ≡ true → list_any (is_opened_as (find p rows)) rows ≡ true
any_first p [] found = absurd cc
any_first p (row ∷ rows) found = opened_step (p row) row (find p rows) rows (λ none. any_first p rows (any_later (p row) (list_any p rows) found none))

pub length_opened : (b c : Bool) (triad : Triad) (rows : List Row) → list_any (has_triad triad) rows ≡ b → nat_le 64 (length rows) ≡ c → length rows ≤ 64 → (c && not (list_any is_timed_out rows)) ≡ false → length (others (is_replaced_by b c (find is_timed_out rows) triad) rows) + 1 ≤ 64
length_opened true c triad rows known full few free = omega (arith, length_others (has_triad triad) rows known)
length_opened false true triad rows known full few free = omega (arith, length_others (is_opened_as (find is_timed_out rows)) rows (any_first is_timed_out rows (not-false _ free)))
length_opened false false triad rows known full few free = grind (arith, nat_tests, length_filter_le (λ _. true) rows)

pub any_opened : (b c : Bool) (triad : Triad) (rows : List Row) → list_any (has_triad triad) rows ≡ b → list_any (has_triad triad) (others (is_replaced_by b c (find is_timed_out rows) triad) rows) ≡ false
any_opened true c triad rows known = none_left (has_triad triad) rows
any_opened false c triad rows known = any_filter (λ row. not (is_replaced_by false c (find is_timed_out rows) triad row)) (has_triad triad) rows known

-- the output of the new row has no other driver
pub drivers_opened : (b : Bool) (rows without : List Row) (new : Row) (point : ℕ) → drives point new ≡ b → length (drivers point without) ≤ length (drivers point rows) → (b ≡ true → drivers point rows ≡ []) → length (drivers point rows) ≤ 1 → length (drivers point (without ++ new ∷ [])) ≤ 1
drivers_opened true rows without new point drives_it fewer none one =
    rw (filter-append (drives point) without (new ∷ []), drives_it) (let e = ap length (none refl) in simp length-append (omega (arith, e)))
drivers_opened false rows without new point drives_it fewer none one =
    rw (filter-append (drives point) without (new ∷ []), drives_it) (simp length-append (omega arith))
