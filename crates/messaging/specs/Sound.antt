-- What holds of class 3 connections and of requests to the application at every table that a run reaches.
use Rattle.std.specs.Prelude.{ℕ, ◌≡◌, ◌≤◌, ◌<◌, true, false, List, [], ◌∷◌, length}
use Rattle.cip_types.specs.declared.ids.IdBlock.{IdBlock}
use Rattle.cip_types.specs.Ids.{id_at}
use Rattle.messaging.specs.declared.class3.Class3Connection.{Class3Connection}
use Rattle.messaging.specs.declared.requests.Waiting.{Waiting}
use Rattle.messaging.specs.declared.table.Messaging.{Messaging}
use Rattle.messaging.specs.Class3Connections.{most_class3_connections, has_class3_triad, has_class3_id}
use Rattle.messaging.specs.Changes.{most_waiting, no_number, can_be_answered}

-- ---- facts of each of a list

-- it holds of each
abbrev pub EachOf : {A : Type 0} → (A → Type 0) → List A → Type 0
EachOf P [] = Unit {0}
EachOf P (x ∷ xs) = P x × EachOf P xs

-- it holds of each and each later one
abbrev pub EachTwoOf : {A : Type 0} → (A → A → Type 0) → List A → Type 0
EachTwoOf R [] = Unit {0}
EachTwoOf R (x ∷ xs) = EachOf (R x) xs × EachTwoOf R xs

-- ---- class 3 connections

abbrev pub TriadsDiffer : Class3Connection → Class3Connection → Type 0
TriadsDiffer d later = has_class3_triad d.triad later ≡ false

abbrev pub IdsDiffer : Class3Connection → Class3Connection → Type 0
IdsDiffer d later = has_class3_id d.o_t_id later ≡ false

-- the O->T id is the device's, and its number, which is the opening number, is below the next one
pub record IsDrawn (ids : List IdBlock) (next_id : ℕ) (d : Class3Connection) : Type 0 where
  pub id : d.o_t_id ≡ id_at ids d.opening
  pub begins : 1 ≤ d.opening
  pub below : d.opening < next_id

-- ---- requests to the application

abbrev pub NumbersRise : Waiting → Waiting → Type 0
NumbersRise w later = w.number < later.number

abbrev pub IsNumberedBelow : ℕ → Waiting → Type 0
IsNumberedBelow next_number w = w.number < next_number

abbrev pub CanBeAnswered : List Class3Connection → Waiting → Type 0
CanBeAnswered class3_connections w = can_be_answered class3_connections w ≡ true

-- ---- all of it

pub record IsSoundMessaging (ids : List IdBlock) (next_id : ℕ) (m : Messaging) : Type 0 where
  pub few_class3_connections : length m.class3_connections ≤ most_class3_connections
  pub triads_differ : EachTwoOf TriadsDiffer m.class3_connections
  pub ids_differ : EachTwoOf IdsDiffer m.class3_connections
  pub are_drawn : EachOf (IsDrawn ids next_id) m.class3_connections
  pub few_waiting : length m.waiting ≤ most_waiting
  pub numbers_rise : EachTwoOf NumbersRise m.waiting
  pub numbered : EachOf (IsNumberedBelow m.next_number) m.waiting
  pub answerable : EachOf (CanBeAnswered m.class3_connections) m.waiting
  pub numbers_left : m.next_number ≤ no_number
