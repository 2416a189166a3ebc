-- Places in an order.
use Rattle.std.proofs.Common.{◌≡◌, Bool, true, false, cond, List, [], ◌∷◌, map, Result, Ok, Err, IfOk, refl, ◌∙◌, ap}
use Rattle.cip_types.specs.Order.{in_order, inserted}

-- ---- orders

inserted_step : {A B : Type 0} (view : A → B) (b : Bool) (x y : A) (ys : List A) (rest : List A) (viewed : List B) → map view rest ≡ viewed → map view (cond b (x ∷ y ∷ ys) (y ∷ rest)) ≡ cond b (view x ∷ view y ∷ map view ys) (view y ∷ viewed)
inserted_step view true x y ys rest viewed is = refl
inserted_step view false x y ys rest viewed is = ap (λ l. view y ∷ l) is

inserted_viewed : {A B : Type 0} (view : A → B) (before : B → B → Bool) (x : A) (ys : List A) → map view (inserted (λ a b. before (view a) (view b)) x ys) ≡ inserted before (view x) (map view ys)
inserted_viewed view before x [] = refl
inserted_viewed view before x (y ∷ ys) = inserted_step view (before (view x) (view y)) x y ys _ _ (inserted_viewed view before x ys)

-- what stands in an order by what it is seen as, is seen in that order
pub order_viewed : {A B : Type 0} (view : A → B) (before : B → B → Bool) (xs : List A) → map view (in_order (λ a b. before (view a) (view b)) xs) ≡ in_order before (map view xs)
order_viewed view before [] = refl
order_viewed view before (x ∷ xs) = inserted_viewed view before x (in_order (λ a b. before (view a) (view b)) xs) ∙ ap (inserted before (view x)) (order_viewed view before xs)

pub if_ok : {A E : Type 0} (P Q : A → Type 0) (r : Result A E) → ((a : A) → P a → Q a) → IfOk r P → IfOk r Q
if_ok P Q (Ok a) more holds = more a holds
if_ok P Q (Err e) more holds = tt
