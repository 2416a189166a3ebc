-- What a joining connection receives, and the groups afterwards.
use Rattle.std.proofs.Common.{◌≡◌, ℕ, Bool, true, false, List, [], ◌∷◌, ◌++◌, find, Option, Some, None, is_some, refl, sym, ap, ◌∙◌}
use Rattle.std.specs.Option.{option_map}
use Rattle.cip_types.specs.declared.names.Ms.{Ms}
use Rattle.cip_productions.specs.declared.production.Producer.{Producer}
use Rattle.mcast_pool.specs.declared.group.Group.{Group}
use Rattle.mcast_pool.specs.declared.pool.Joined.{Joined}
use Rattle.mcast_pool.specs.Groups.{serves, producer_of, one_more, change_first, index_for, joined_group, joined_by, joined_by_found, joined, MayProduce}
use Rattle.mcast_pool.proofs.Places.{not_joined, joined_found}

pub join_result_of : (producer serving : Producer) (found : Option Group) (join_result : Joined) → Some serving ≡ option_map producer_of found → join_result ≡ record { id = serving.id; number = serving.production.producer; fresh = false } → join_result ≡ joined_by producer found
join_result_of producer serving None join_result is said = absurd cc
join_result_of producer serving (Some group) join_result is said =
    let same : serving ≡ group.producer = cc in
    said ∙ ap (λ (p : Producer). record { id = p.id; number = p.production.producer; fresh = false }) same

pub joined_as : (new : Group) (groups : List Group) (at : ℕ) → index_for new.shared new.producer.point groups ≡ Some at → change_first (serves new.producer.point) one_more groups ≡ joined new groups
joined_as new groups at is = ap (λ found. joined_by_found new found groups) (sym (joined_found new.shared new.producer.point groups at new is))

pub begun_as : (new : Group) (groups : List Group) → index_for new.shared new.producer.point groups ≡ None → groups ++ new ∷ [] ≡ joined new groups
begun_as new groups is = ap (λ found. joined_by_found new found groups) (sym (not_joined new.shared new.producer.point groups is))

pub not_served : (shared : Bool) (point : ℕ) (groups : List Group) → joined_group shared point groups ≡ None → shared ≡ true → find (serves point) groups ≡ None
not_served false point groups none is = absurd cc
not_served true point groups none is = none

pub may_be : (clock : Ms) (found : Option Group) → MayProduce clock found → is_some found ≡ true
may_be clock None may = absurd may
may_be clock (Some group) may = refl
