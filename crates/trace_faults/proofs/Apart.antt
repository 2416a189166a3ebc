-- Lists no two elements of which are alike: one element more, and an element that is like an earlier one.
use Rattle.std.proofs.Common.{ℕ, ◌≡◌, ◌+◌, ◌<◌, ◌&&◌, not, Bool, true, false, List, [], ◌∷◌, ◌++◌, length, take, drop, get_or, refl, sym, ◌∙◌, ap, arith}
use Rattle.std.proofs.lemmas.Grind.{common_steps}
use Rattle.std.specs.List.{list_any}
use Rattle.std.proofs.lemmas.List.{take_more, drop_more, take-append-drop}
use Rattle.std.proofs.lemmas.List.Folds.{list_any-append}

-- no element is like a later one
abbrev pub apart : {A : Type 0} → (A → A → Bool) → List A → Bool
apart like [] = true
apart like (item ∷ items) = not (list_any (like item) items) && apart like items

apart_more : {A : Type 0} (like : A → A → Bool) (items : List A) (item : A) → apart like items ≡ true → list_any (λ other. like other item) items ≡ false → apart like (items ++ item ∷ []) ≡ true
apart_more like [] item is none = refl
apart_more like (other ∷ items) item is none = grind (arith, common_steps, list_any-append (like other) items (item ∷ []), apart_more like items item)

not_apart : {A : Type 0} (like : A → A → Bool) (items : List A) (item : A) (behind : List A) → list_any (λ other. like other item) items ≡ true → apart like (items ++ item ∷ behind) ≡ false
not_apart like [] item behind some = (cc)
not_apart like (other ∷ items) item behind some = grind (arith, common_steps, list_any-append (like other) items (item ∷ behind), not_apart like items item behind)

-- one element more, like none before it
pub apart_next : {A : Type 0} (like : A → A → Bool) (items : List A) (i : ℕ) (item otherwise : A) → i < length items → item ≡ get_or items i otherwise → apart like (take i items) ≡ true → list_any (λ other. like other item) (take i items) ≡ false → apart like (take (i + 1) items) ≡ true
apart_next like items i item otherwise lt is so none =
    ap (apart like) (take_more items i otherwise lt ∙ ap (λ last. take i items ++ last ∷ []) (sym is)) ∙ apart_more like (take i items) item so none

-- an element that is like one before it
pub apart_ends : {A : Type 0} (like : A → A → Bool) (items : List A) (i : ℕ) (item otherwise : A) → i < length items → item ≡ get_or items i otherwise → list_any (λ other. like other item) (take i items) ≡ true → apart like items ≡ false
apart_ends like items i item otherwise lt is some =
    let parted : items ≡ take i items ++ item ∷ drop (i + 1) items = sym (take-append-drop i items) ∙ ap (λ rest. take i items ++ rest) (drop_more items i otherwise lt ∙ ap (λ first. first ∷ drop (i + 1) items) (sym is)) in
    ap (apart like) parted ∙ not_apart like (take i items) item (drop (i + 1) items) some
