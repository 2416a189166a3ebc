-- A text that is written piece by piece.
use Rattle.std.proofs.Common.{◌≡◌, ℕ, ◌-◌, List, [], ◌∷◌, ◌++◌, take, drop, length, Option, Some, None, refl, sym, ap, subst, ◌∙◌, append_assoc, arith}
use Rattle.std.specs.Io.KnownBytes.{Appends, Keeps}
use Rattle.std.proofs.lemmas.List.{append-nil, take-append-drop, take_all, length-drop}
use Rattle.trace_stepper.specs.Written.{BeginsToWrite}

pub chained : (old mid new : Option (List ℕ)) (a b : List ℕ) → Appends old mid a → Appends mid new b → Appends old new (a ++ b)
chained None mid new a b one two = tt
chained (Some xs) None new a b one two = absurd one
chained (Some xs) (Some ys) None a b one two = absurd two
chained (Some xs) (Some ys) (Some zs) a b one two = two ∙ ap (λ f. f ++ b) one ∙ append_assoc xs a b

pub nothing : (old : Option (List ℕ)) → Appends old old []
nothing None = tt
nothing (Some xs) = sym (append-nil xs)

kept : (old mid new : Option (List ℕ)) (a : List ℕ) → Appends old mid a → Keeps mid new → Appends old new a
kept None mid new a one two = tt
kept (Some xs) None new a one two = absurd one
kept (Some xs) (Some ys) None a one two = absurd two
kept (Some xs) (Some ys) (Some zs) a one two = two ∙ one

-- what is left of a text is to be written
abbrev pub IsWriting : Option (List ℕ) → List ℕ → List ℕ → Option (List ℕ) → Type 0
IsWriting old text rest now = (first : List ℕ) × ((text ≡ first ++ rest) × Appends old now first)

pub writing_begun : (old : Option (List ℕ)) (text : List ℕ) → IsWriting old text text old
writing_begun old text = ([], (refl, nothing old))

pub writing_more : (old now next : Option (List ℕ)) (text rest : List ℕ) (count : ℕ) → IsWriting old text rest now → Appends now next (take count rest) → IsWriting old text (drop count rest) next
writing_more old now next text rest count (first, (is, written)) more =
    (first ++ take count rest, (is ∙ ap (λ r. first ++ r) (sym (take-append-drop count rest)) ∙ sym (append_assoc first (take count rest) (drop count rest)), chained old now next first (take count rest) written more))

-- what is left behind a part, as a slice that ends with the text
pub writing_left : (old now next : Option (List ℕ)) (text rest : List ℕ) (count : ℕ) → IsWriting old text rest now → Appends now next (take count rest) → IsWriting old text (take (length rest - count) (drop count rest)) next
writing_left old now next text rest count writing more =
    let long : length (drop count rest) ≡ length rest - count = length-drop count rest in
    let whole : take (length rest - count) (drop count rest) ≡ drop count rest = take_all (length rest - count) (drop count rest) (omega (arith, long)) in
    subst (λ r. IsWriting old text r next) (sym whole) (writing_more old now next text rest count writing more)

pub writing_kept : (old now next : Option (List ℕ)) (text rest : List ℕ) → IsWriting old text rest now → Keeps now next → IsWriting old text rest next
writing_kept old now next text rest (first, (is, written)) same = (first, (is, kept old now next first written same))

empty : (rest : List ℕ) → length rest ≡ 0 → rest ≡ []
empty [] none = refl
empty (x ∷ xs) none = absurd (omega (arith, none))

pub writing_done : (old now : Option (List ℕ)) (text rest : List ℕ) → IsWriting old text rest now → length rest ≡ 0 → Appends old now text
writing_done old now text rest (first, (is, written)) none = subst (Appends old now) (sym (is ∙ ap (λ r. first ++ r) (empty rest none) ∙ append-nil first)) written

pub writing_stopped : (old now : Option (List ℕ)) (text rest : List ℕ) → IsWriting old text rest now → BeginsToWrite old text now
writing_stopped old now text rest (first, (is, written)) = (first, (rest, (is, written)))
