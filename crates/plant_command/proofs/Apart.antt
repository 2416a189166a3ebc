-- The addresses of devices, one device more.
use Rattle.std.proofs.Common.{ℕ, ◌+◌, ◌<◌, ◌≤◌, ◌≡◌, ◌≢◌, Bool, false, eqb, List, [], ◌∷◌, ◌++◌, length, get_or, None, arith}
use Rattle.std.specs.List.{position, position_or_len}
use Rattle.std.proofs.lemmas.Grind.{common_steps}
use Rattle.std.proofs.lemmas.List.Sums.{fails_before_first}
use Rattle.std.proofs.Math.Logic.{⊎_elim}
use Rattle.std.proofs.lemmas.Bool.{cases_lt}
use Rattle.std.proofs.lemmas.List.{get_or_append_left, length-append}
use Rattle.std.proofs.Math.Seq.{get_or-append_seam}
use Rattle.plant_command.specs.declared.setups.MemberSetup.{MemberSetup}
use Rattle.plant_command.specs.Setups.{AreApart, is_at}

-- what is nowhere is at no place
nowhere : {X : Type 0} (p : X → Bool) (xs : List X) (k : ℕ) (d : X) → position p xs ≡ None → k < length xs → p (get_or xs k d) ≡ false
nowhere p xs k d none within =
    let beyond : length xs ≤ position_or_len p xs = grind (arith, common_steps) in
    fails_before_first p xs k d (omega arith)

differ : (a b : ℕ) → eqb a b ≡ false → a ≢ b
differ a b h = grind arith

-- a device that is nowhere at this address differs from each
differs : (setups : List MemberSetup) (new : MemberSetup) (i : ℕ) (d : MemberSetup) → position (is_at new.member.address) setups ≡ None → i < length setups → (get_or setups i d).member.address.0 ≢ new.member.address.0
differs setups new i d none within = differ _ _ (nowhere (is_at new.member.address) setups i d none within)

pub apart_none : AreApart []
apart_none i j d lt within = absurd (omega arith)

pub apart_push : (setups : List MemberSetup) (new : MemberSetup) → AreApart setups → position (is_at new.member.address) setups ≡ None → AreApart (setups ++ new ∷ [])
apart_push setups new apart none i j d lt within =
    let long : length (setups ++ new ∷ []) ≡ length setups + 1 = length-append setups (new ∷ []) in
    let earlier = get_or_append_left setups (new ∷ []) d i (omega arith) in
    ⊎_elim
    (λ before. rw (earlier, get_or_append_left setups (new ∷ []) d j before) (apart i j d lt before))
    (λ behind.
    let last : j ≡ length setups = omega arith in
    let inside : i < length setups = omega arith in
    rw (earlier, last, get_or-append_seam setups new [] d) (differs setups new i d none inside))
    (cases_lt j (length setups))
