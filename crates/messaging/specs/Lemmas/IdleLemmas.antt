-- A time at which no deadline has come changes nothing.
use Rattle.std.proofs.Common.{◌≡◌, ◌<◌, ℕ, nat_le, Bool, true, false, not, ◌||◌, List, [], ◌∷◌, filter, refl, ◌∙◌, ap, arith}
use Rattle.std.specs.List.{list_any}
use Rattle.std.proofs.lemmas.Bool.{or_parts}
use Rattle.std.proofs.lemmas.Bool.Decides.{nat_tests}
use Rattle.cip_types.specs.declared.names.Ms.{Ms}
use Rattle.cip_types.specs.Order.{in_order}
use Rattle.messaging.specs.declared.class3.Class3Connection.{Class3Connection}
use Rattle.messaging.specs.declared.requests.Waiting.{Waiting}
use Rattle.messaging.specs.declared.table.Messaging.{Messaging}
use Rattle.messaging.specs.Changes.{can_be_answered, with_class3_connections}
use Rattle.messaging.specs.Times.{is_late_class3, is_late_request, by_class3_deadline, late_class3_connections, without_late_class3_connections, late_waiting, late_replies, without_late_waiting, aged, is_idle, class3_end, request_end, first_of, first_moment}
use Rattle.messaging.specs.Sound.{EachOf, CanBeAnswered}

none_pass : {A : Type 0} (p : A → Bool) (xs : List A) → list_any p xs ≡ false → filter p xs ≡ []
none_pass p [] none = refl
none_pass p (x ∷ xs) none =
    let parts = or_parts (p x) (list_any p xs) none in
    rw parts.0 (none_pass p xs parts.1)

all_stay : {A : Type 0} (p : A → Bool) (xs : List A) → list_any p xs ≡ false → filter (λ x. not (p x)) xs ≡ xs
all_stay p [] none = refl
all_stay p (x ∷ xs) none =
    let parts = or_parts (p x) (list_any p xs) none in
    rw parts.0 (ap (λ l. x ∷ l) (all_stay p xs parts.1))

all_pass : {A : Type 0} (p : A → Bool) (xs : List A) → EachOf (λ x. p x ≡ true) xs → filter p xs ≡ xs
all_pass p [] all = refl
all_pass p (x ∷ xs) all = rw all.0 (ap (λ l. x ∷ l) (all_pass p xs all.1))

not_either : (a b : Bool) → not (a || b) ≡ true → (a || b) ≡ false
not_either true b is = absurd cc
not_either false true is = absurd cc
not_either false false is = refl

-- nothing ends
pub record IsCalm (clock : Ms) (m : Messaging) : Type 0 where
  pub class3_connections : late_class3_connections clock m ≡ []
  pub left : without_late_class3_connections clock m ≡ m
  pub waiting : late_waiting clock m ≡ []
  pub same : aged clock m ≡ m

left_is : (clock : Ms) (m : Messaging) → EachOf (CanBeAnswered m.class3_connections) m.waiting → list_any (is_late_class3 clock) m.class3_connections ≡ false → without_late_class3_connections clock m ≡ m
unfolding without_late_class3_connections
left_is clock m answerable none =
    ap (λ (l : List Class3Connection). with_class3_connections m l) (all_stay (is_late_class3 clock) m.class3_connections none)
    ∙ ap (λ (l : List Waiting). record m { waiting = l }) (all_pass (can_be_answered m.class3_connections) m.waiting answerable)

early_is : (clock : Ms) (m : Messaging) → list_any (is_late_request clock) m.waiting ≡ false → without_late_waiting clock m ≡ m
unfolding without_late_waiting
early_is clock m none =
    ap (λ (l : List Waiting). late_replies l (record m { waiting = filter (λ w. not (is_late_request clock w)) m.waiting })) (none_pass (is_late_request clock) m.waiting none)
    ∙ ap (λ (l : List Waiting). record m { waiting = l }) (all_stay (is_late_request clock) m.waiting none)

pub idle_is_calm : (clock : Ms) (m : Messaging) → EachOf (CanBeAnswered m.class3_connections) m.waiting → is_idle clock m ≡ true → IsCalm clock m
unfolding aged
idle_is_calm clock m answerable idle =
    let none = or_parts (list_any (is_late_class3 clock) m.class3_connections) (list_any (is_late_request clock) m.waiting) (not_either (list_any (is_late_class3 clock) m.class3_connections) (list_any (is_late_request clock) m.waiting) idle) in
    let left = left_is clock m answerable none.0 in
    record {
      class3_connections = ap (in_order by_class3_deadline) (none_pass (is_late_class3 clock) m.class3_connections none.0);
      left = left;
      waiting = none_pass (is_late_request clock) m.waiting none.1;
      same = ap (without_late_waiting clock) left ∙ early_is clock m none.1;
    }

-- ---- before the first moment

none_late : {A : Type 0} (moment : A → ℕ) (clock : ℕ) (xs : List A) → clock < first_of moment xs → list_any (λ x. nat_le (moment x) clock) xs ≡ false
none_late moment clock [] early = refl
none_late moment clock (x ∷ xs) early =
    let here : nat_le (moment x) clock ≡ false = grind (arith, nat_tests) in
    rw here (none_late moment clock xs (omega (arith, early)))

-- before the first of the deadlines none has come
pub early_is_idle : (clock : Ms) (m : Messaging) → clock.0 < first_moment m → is_idle clock m ≡ true
unfolding first_moment
early_is_idle clock m early =
    rw (none_late class3_end clock.0 m.class3_connections (omega (arith, early)), none_late request_end clock.0 m.waiting (omega (arith, early))) refl
