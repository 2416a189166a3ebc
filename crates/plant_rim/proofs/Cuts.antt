-- Where a mark cuts a text: at the first place at which it stands.
use Rattle.std.proofs.Common.{◌≡◌, ◌≢◌, ℕ, zero, suc, ◌+◌, ◌<◌, ◌≤◌, Bool, true, false, cond, List, [], ◌∷◌, ◌++◌, length, take, drop, Option, Some, None, refl, sym, ap, ◌∙◌, arith, length-append, drop-drop}
use Rattle.std.specs.Borrow.{Bor}
use Rattle.std.specs.List.{starts_with}
use Rattle.std.specs.Option.{MatchOption}
use Rattle.std.specs.Prelude.{nat_eq}
use Rattle.std.specs.Str.Pattern.{FindsText, LacksTextAt}
use Rattle.std.proofs.lemmas.Bool.Decides.{Decides-eqb}
use Rattle.std.proofs.lemmas.Slice.Eq.{starts_is}
use Rattle.plant_rim.specs.File.Texts.{cut_at, view_cut, with_front}

-- what `split_once` says at a text
abbrev pub IsSplitAt : (mark text : List ℕ) → Option (Bor (List ℕ) × Bor (List ℕ)) → Type 0
IsSplitAt mark text r = MatchOption r (FindsText mark text None) (λ x. (i : ℕ) × (j : ℕ) × FindsText mark text (Some (i, j)) × (x.0.now ≡ take i text) × (x.1.now ≡ drop j text) × (i ≤ j) × (length x.0.now ≡ i) × (length x.1.now + j ≡ length text))

-- a text that does not begin with the mark
begins_not : (mark text : List ℕ) → ((rest : List ℕ) → text ≢ mark ++ rest) → starts_with nat_eq text mark ≡ false
begins_not mark text lacks = go (starts_with nat_eq text mark) refl
  where
    go : (b : Bool) → starts_with nat_eq text mark ≡ b → starts_with nat_eq text mark ≡ false
    go true is = absurd (lacks _ ((starts_is Decides-eqb text mark _ refl).0 is))
    go false is = is

no_cut : (mark text : List ℕ) → ((i : ℕ) → i ≤ length text → LacksTextAt mark text i) → cut_at mark text ≡ None
unfolding cut_at
no_cut mark [] lacks = refl
no_cut mark (byte ∷ bytes) lacks =
    ap (λ b. cond b (Some ([], drop (length mark) (byte ∷ bytes))) (with_front byte (cut_at mark bytes))) (begins_not mark (byte ∷ bytes) (lacks 0 (omega arith)))
    ∙ ap (with_front byte) (no_cut mark bytes (λ i below. lacks (suc i) (omega (arith, below))))

-- a mark of some bytes does not stand behind the end
not_behind : {A : Type 0} (mark rest : List ℕ) (n : ℕ) → length mark ≡ suc n → [] ≡ mark ++ rest → A
not_behind mark rest n some is = absurd (omega (arith, some, ap length is, length-append mark rest))

first_cut : (mark text : List ℕ) (n : ℕ) → length mark ≡ suc n → (i : ℕ) (rest : List ℕ) → ((k : ℕ) → k < i → LacksTextAt mark text k) → drop i text ≡ mark ++ rest → cut_at mark text ≡ Some (take i text, drop (length mark) (drop i text))
unfolding cut_at
first_cut mark [] n some zero rest lacks is = not_behind mark rest n some is
first_cut mark [] n some (suc i) rest lacks is = not_behind mark rest n some is
first_cut mark (byte ∷ bytes) n some zero rest lacks is =
    ap (λ b. cond b (Some ([], drop (length mark) (byte ∷ bytes))) (with_front byte (cut_at mark bytes))) ((starts_is Decides-eqb (byte ∷ bytes) mark _ refl).1 rest is)
first_cut mark (byte ∷ bytes) n some (suc i) rest lacks is =
    ap (λ b. cond b (Some ([], drop (length mark) (byte ∷ bytes))) (with_front byte (cut_at mark bytes))) (begins_not mark (byte ∷ bytes) (lacks 0 (omega arith)))
    ∙ ap (with_front byte) (first_cut mark bytes n some i rest (λ k below. lacks (suc k) (omega (arith, below))) is)

-- `split_once` cuts there
pub split_is_cut : (mark text : List ℕ) (n : ℕ) → length mark ≡ suc n → (r : Option (Bor (List ℕ) × Bor (List ℕ))) → IsSplitAt mark text r → view_cut r ≡ cut_at mark text
split_is_cut mark text n some None h = sym (no_cut mark text h)
split_is_cut mark text n some (Some x) h =
    let behind : drop (length mark) (drop h.0 text) ≡ x.1.now = drop-drop (length mark) h.0 text ∙ ap (λ m. drop m text) (sym h.2.1.ends) ∙ sym h.4 in
    (λ k. Some (h.3 k, sym behind k)) ∙ sym (first_cut mark text n some h.0 (drop h.1 text) h.2.0 h.2.1.split)
