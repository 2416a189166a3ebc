-- Producers and their connections: a point to point connection has a producer of its own, and the multicast
-- connections of one input share theirs (Volume 1, chapter 3, class 1 transport and production triggers;
-- Volume 2, chapter 3, multicast connections).
use Rattle.std.specs.Prelude.{ℕ, ◌≡◌, ◌≤◌, ◌+◌, ◌-◌, ◌^◌, ◌==◌, ◌&&◌, ◌||◌, not, min, Bool, true, false, if◌then◌else◌, List, [], ◌∷◌, ◌++◌, find, Option, Some, None, is_some}
use Rattle.std.specs.List.{list_any, position}
use Rattle.cip_types.specs.declared.names.Ms.{Ms}
use Rattle.cip_productions.specs.declared.production.Production.{Production}
use Rattle.cip_productions.specs.declared.production.Producer.{Producer}
use Rattle.cip_productions.specs.Productions.{produced, is_production_due, is_on_change, is_free, deferred, changed, is_produced_on_change}
use Rattle.mcast_pool.specs.declared.group.Group.{Group}
use Rattle.mcast_pool.specs.declared.pool.Joined.{Joined}

-- ONE GROUP

abbrev pub number_of : Group → ℕ
number_of group = group.producer.production.producer

abbrev pub producer_of : Group → Producer
producer_of group = group.producer

abbrev pub production_of : Group → Production
production_of group = group.producer.production

-- this is the number of its producer
abbrev pub has_number : ℕ → Group → Bool
has_number number group = group.producer.production.producer == number

-- connections of the point may join it
abbrev pub serves : ℕ → Group → Bool
serves point group = group.shared && group.producer.point == point

abbrev pub is_due : Ms → Group → Bool
is_due clock group = is_production_due clock group.producer.production

-- a group of one connection, with the producer that it begins
abbrev pub begun : Producer → Bool → ℕ → Group
begun producer shared api = record { producer = producer; shared = shared; api = api; subscribers = 1 }

-- one more connection, and one less
abbrev pub one_more : Group → Group
one_more group = record group { subscribers = group.subscribers + 1 }

abbrev pub one_less : Group → Group
one_less group = record group { subscribers = group.subscribers - 1 }

abbrev pub with_production : Group → Production → Group
with_production group production = record group { producer = record group.producer { production = production } }

-- WHAT PRODUCERS DO

abbrev pub written : Production → Production
written production = record production { written = true }

-- the producer may not produce at a change of state yet
abbrev pub waits : Ms → Production → Bool
waits clock production = is_on_change production.trigger && not (is_free clock production)

-- it has new data; if its inhibit time runs, it is due at the end of that time
abbrev pub touched_production : Ms → Production → Production
touched_production clock production = if waits clock production then deferred (written production) else written production

-- the same, if it produces the point
abbrev pub touched : Ms → ℕ → Group → Group
touched clock point group =
    if group.producer.point == point then with_production group (touched_production clock group.producer.production) else group

-- it has produced
abbrev pub produced_group : Ms → Group → Group
produced_group clock group = with_production group (produced clock group.api group.producer.production)

-- it has produced, if it was due
abbrev pub produced_if_due : Ms → Group → Group
produced_if_due clock group = if is_due clock group then produced_group clock group else group

-- it has new data, and has acted on a write of its point
abbrev pub written_and_changed : Ms → ℕ → Group → Group
written_and_changed clock point group =
    if group.producer.point == point then with_production group (changed clock group.api (written group.producer.production)) else group

-- a write of the point makes it produce at once
abbrev pub is_at_once : Ms → ℕ → Group → Bool
is_at_once clock point group = group.producer.point == point && is_produced_on_change clock group.producer.production

-- GROUPS IN THE ORDER IN WHICH THEY BEGAN

-- the group of a producer's number
abbrev pub numbered : ℕ → List Group → Option Group
numbered number groups = find (has_number number) groups

-- the number is that of a producer
abbrev pub IsInUse : ℕ → List Group → Type 0
IsInUse number groups = is_some (numbered number groups) ≡ true

-- the connections that all of them serve
abbrev pub subscribers : List Group → ℕ
subscribers [] = 0
subscribers (group ∷ groups) = group.subscribers + subscribers groups

-- the group that a connection of the point joins, if it shares its producer
abbrev pub joined_group : Bool → ℕ → List Group → Option Group
joined_group false point groups = None
joined_group true point groups = find (serves point) groups

-- the index of that group
abbrev pub index_for : Bool → ℕ → List Group → Option ℕ
index_for false point groups = None
index_for true point groups = position (serves point) groups

-- a change of the first that passes a test
abbrev pub change_first : (Group → Bool) → (Group → Group) → List Group → List Group
change_first test change [] = []
change_first test change (group ∷ groups) = if test group then change group ∷ groups else group ∷ change_first test change groups

-- what a joining connection receives: the id and the number of its producer, and whether it starts it
abbrev pub joined_by : Producer → Option Group → Joined
joined_by producer None = record { id = producer.id; number = producer.production.producer; fresh = true }
joined_by producer (Some group) = record { id = group.producer.id; number = group.producer.production.producer; fresh = false }

abbrev pub joined_by_found : Group → Option Group → List Group → List Group
joined_by_found new None groups = groups ++ new ∷ []
joined_by_found new (Some found) groups = change_first (serves new.producer.point) one_more groups

-- the groups with one connection more, which shares a producer or begins one
abbrev pub joined : Group → List Group → List Group
joined new groups = joined_by_found new (joined_group new.shared new.producer.point groups) groups

-- a group loses a connection, and is removed with its last one
abbrev pub rest_of : Group → List Group → List Group
rest_of group groups = if group.subscribers == 1 then groups else one_less group ∷ groups

-- the groups without one connection of this producer
abbrev pub left : ℕ → List Group → List Group
left number [] = []
left number (group ∷ groups) = if has_number number group then rest_of group groups else group ∷ left number groups

abbrev pub is_last : Group → Bool
is_last group = group.subscribers == 1

-- when the first of them is due; the end of time if there is none
abbrev pub first_due : List Group → ℕ
first_due [] = 2 ^ 64 - 1
first_due (group ∷ groups) = min group.producer.production.due.0 (first_due groups)

-- WHAT HOLDS OF ALL OF THEM

-- the limits of a device: packet intervals in milliseconds, and when a producer is due
pub record FitsGroup (group : Group) : Type 0 where
  pub api : group.api ≤ 10000
  pub due : group.producer.production.due.0 ≤ 2 ^ 48 + 10000

-- a producer produces when it is due, and at changes of state when its trigger is these
abbrev pub MayProduce : Ms → Option Group → Type 0
MayProduce clock None = ⊥
MayProduce clock (Some group) = is_due clock group || is_on_change group.producer.production.trigger ≡ true

-- two are one producer, or share a point that both serve
abbrev pub is_like : Group → Group → Bool
is_like group other = has_number (number_of group) other || (group.shared && serves group.producer.point other)

-- each serves a connection within the limits, and no two are alike
abbrev pub AreGroups : List Group → Type 0
AreGroups [] = Unit {0}
AreGroups (group ∷ groups) = FitsGroup group × (1 ≤ group.subscribers) × (list_any (is_like group) groups ≡ false) × AreGroups groups

-- the invariant of a pool: it has capacity for the most producers that there can be
pub record IsPool (groups : List Group) (capacity : ℕ) : Type 0 where
  pub each : AreGroups groups
  pub few : subscribers groups ≤ 64
  pub space : 64 ≤ capacity
