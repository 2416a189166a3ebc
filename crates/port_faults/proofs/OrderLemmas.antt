-- No stream is to be cut by what arrives or is sent.
use Rattle.std.proofs.Common.{◌≡◌, ◌≤◌, ℕ, zero, suc, Bool, true, false, cond, List, [], ◌∷◌, length, nat_lt, slice_set, Some, None, refl, arith}
use Rattle.std.proofs.lemmas.Bool.Decides.{nat_tests}
use Rattle.std.specs.List.{position, position_or_len}
use Rattle.port_faults.specs.Orders.Marks.{is_to_cut}
use Rattle.port_faults.specs.declared.orders.marks.StreamMark.{StreamMark}
use Rattle.port_faults.specs.declared.orders.marks.StreamMark.TheVariants.{Closed, Open, ToCut}

-- none is to be cut: the first one to be cut lies behind the last mark
past : (marks : List StreamMark) → position is_to_cut marks ≡ None → length marks ≤ position_or_len is_to_cut marks
past marks none = past_by (nat_lt (position_or_len is_to_cut marks) (length marks)) refl none
  where
    past_by : (b : Bool) → nat_lt (position_or_len is_to_cut marks) (length marks) ≡ b → cond b (Some (position_or_len is_to_cut marks)) None ≡ None → length marks ≤ position_or_len is_to_cut marks
    past_by true is h = absurd cc
    past_by false is h = grind (arith, nat_tests)

none_past : (marks : List StreamMark) → length marks ≤ position_or_len is_to_cut marks → position is_to_cut marks ≡ None
none_past marks behind = none_by (nat_lt (position_or_len is_to_cut marks) (length marks)) refl
  where
    none_by : (b : Bool) → nat_lt (position_or_len is_to_cut marks) (length marks) ≡ b → cond b (Some (position_or_len is_to_cut marks)) None ≡ None
    none_by true is = absurd (grind (arith, nat_tests, behind, is))
    none_by false is = refl

front : (mark : StreamMark) (marks : List StreamMark) → length (mark ∷ marks) ≤ position_or_len is_to_cut (mark ∷ marks) → is_to_cut mark ≡ false
front Closed marks behind = refl
front Open marks behind = refl
front ToCut marks behind = absurd (omega (arith, behind))

rest : (mark : StreamMark) (marks : List StreamMark) → length (mark ∷ marks) ≤ position_or_len is_to_cut (mark ∷ marks) → length marks ≤ position_or_len is_to_cut marks
rest Closed marks behind = omega (arith, behind)
rest Open marks behind = omega (arith, behind)
rest ToCut marks behind = absurd (omega (arith, behind))

before : (mark : StreamMark) (marks : List StreamMark) → is_to_cut mark ≡ false → length marks ≤ position_or_len is_to_cut marks → length (mark ∷ marks) ≤ position_or_len is_to_cut (mark ∷ marks)
before Closed marks not behind = omega (arith, behind)
before Open marks not behind = omega (arith, behind)
before ToCut marks not behind = absurd cc

put_past : (marks : List StreamMark) (stream : ℕ) (mark : StreamMark) → is_to_cut mark ≡ false → length marks ≤ position_or_len is_to_cut marks → length (slice_set marks stream mark) ≤ position_or_len is_to_cut (slice_set marks stream mark)
put_past [] stream mark not behind = behind
put_past (first ∷ marks) zero mark not behind = before mark marks not (rest first marks behind)
put_past (first ∷ marks) (suc stream) mark not behind =
    before first (slice_set marks stream mark) (front first marks behind) (put_past marks stream mark not (rest first marks behind))

pub none_put : (marks : List StreamMark) (stream : ℕ) (mark : StreamMark) → is_to_cut mark ≡ false → position is_to_cut marks ≡ None → position is_to_cut (slice_set marks stream mark) ≡ None
none_put marks stream mark not none = none_past (slice_set marks stream mark) (put_past marks stream mark not (past marks none))
