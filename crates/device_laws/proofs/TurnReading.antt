-- If data come from one connection until it has ended, then between data of two connections the first ends.
use Rattle.std.proofs.Common.{◌≡◌, ◌≢◌, ℕ, ◌==◌, Bool, true, false, cond, List, [], ◌∷◌, ◌++◌, Option, Some, None, refl, sym, subst, arith}
use Rattle.std.specs.List.{Contains}
use Rattle.std.proofs.lemmas.Bool.Decides.{nat_tests}
use Rattle.std.proofs.lemmas.List.Elements.{Contains-append_left, Contains-append_right, Contains-push}
use Rattle.device_laws.specs.Turns.{Turn, brought, ended, owner_after, Follow, OwnersFollow, EndsStandBetween}
use Rattle.device_laws.proofs.TurnRuns.{owner_at_end}

follow_rest : (owner : Option ℕ) (first rest : List Turn) → Follow owner (first ++ rest) → Follow (owner_at_end owner first) rest
follow_rest owner [] rest follow = follow
follow_rest owner (turn ∷ first) rest follow = follow_rest (owner_after turn owner) first rest follow.1

here : (turn : Turn) (rest : List Turn) → Contains (turn ∷ rest) turn
here turn rest = Contains-append_left (turn ∷ []) rest turn (Contains-push [] turn)

later : (first turn : Turn) (rest : List Turn) → Contains rest turn → Contains (first ∷ rest) turn
later first turn rest there = Contains-append_right (first ∷ []) rest turn there

ended_step : (c : Bool) (other a : ℕ) (middle rest : List Turn) → (other == a) ≡ c → Follow (cond c None (Some a)) rest → (Follow (Some a) rest → Contains middle (ended a)) → Contains (ended other ∷ middle) (ended a)
ended_step true other a middle rest is follow more =
    let same : other ≡ a = grind (arith, nat_tests) in
    subst (λ (n : ℕ). Contains (ended n ∷ middle) (ended a)) (sym same) (here (ended a) middle)
ended_step false other a middle rest is follow more = later (ended other) (ended a) middle (more follow)

-- another connection's data come only after the owner's end
ends_before : (a b : ℕ) (middle last : List Turn) → a ≢ b → Follow (Some a) (middle ++ brought b ∷ last) → Contains middle (ended a)
ends_before a b [] last differ follow = absurd (differ (sym follow.0))
ends_before a b (brought other ∷ middle) last differ follow =
    later (brought other) (ended a) middle
    (ends_before a b middle last differ (subst (λ (n : ℕ). Follow (Some n) (middle ++ brought b ∷ last)) follow.0 follow.1))
ends_before a b (ended other ∷ middle) last differ follow =
    ended_step (other == a) other a middle (middle ++ brought b ∷ last) refl follow.1 (λ goes_on. ends_before a b middle last differ goes_on)

pub ends_between : OwnersFollow → EndsStandBetween
ends_between follows point old new events outcomes first middle last a b whole ran is differ =
    let all = subst (Follow None) is (follows point old new events outcomes whole ran) in
    ends_before a b middle last differ (follow_rest None first (brought a ∷ (middle ++ brought b ∷ last)) all).1
