-- Outputs that go one after another.
use Rattle.std.proofs.Common.{◌≡◌, ◌<◌, ℕ, ◌+◌, List, [], ◌∷◌, ◌++◌, length, take, drop, get_or, Result, Ok, Err, refl, ap, ◌∙◌, sym, subst, append_assoc, append-nil}
use Rattle.std.specs.List.{flat_map}
use Rattle.std.proofs.lemmas.List.{take_more, take-append-drop, drop_more}
use Rattle.cip_events.specs.Outputs.{AnswerOutput}
use Rattle.cip_events.specs.Transmission.{BreaksOff, Puts, Sends, SendsAll}

flat_map-append : {X : Type 0} (f : X → List AnswerOutput) (xs ys : List X) → flat_map f (xs ++ ys) ≡ flat_map f xs ++ flat_map f ys
flat_map-append f [] ys = refl
flat_map-append f (x ∷ xs) ys = ap (λ os. f x ++ os) (flat_map-append f xs ys) ∙ sym (append_assoc (f x) (flat_map f xs) (flat_map f ys))

-- the outputs of one element more
flat_map_take_more : {X : Type 0} (f : X → List AnswerOutput) (xs : List X) (i : ℕ) (x : X) → i < length xs → x ≡ get_or xs i x → flat_map f (take (i + 1) xs) ≡ flat_map f (take i xs) ++ f x
flat_map_take_more f xs i x h is =
    ap (flat_map f) (take_more xs i x h)
    ∙ flat_map-append f (take i xs) (get_or xs i x ∷ [])
    ∙ ap (λ os. flat_map f (take i xs) ++ os) (append-nil (f (get_or xs i x)))
    ∙ ap (λ y. flat_map f (take i xs) ++ f y) (sym is)

-- all outputs are those of the first elements, of the next one, and of the others
pub flat_map_parts : {X : Type 0} (f : X → List AnswerOutput) (xs : List X) (i : ℕ) (x : X) → i < length xs → x ≡ get_or xs i x → flat_map f xs ≡ flat_map f (take i xs) ++ (f x ++ flat_map f (drop (i + 1) xs))
flat_map_parts f xs i x h is =
    ap (flat_map f) (sym (take-append-drop i xs))
    ∙ flat_map-append f (take i xs) (drop i xs)
    ∙ ap (λ ys. flat_map f (take i xs) ++ flat_map f ys) (drop_more xs i x h)
    ∙ ap (λ y. flat_map f (take i xs) ++ (f y ++ flat_map f (drop (i + 1) xs))) (sym is)

-- outputs behind others
all_on : {N : Type 0} (sends : N → AnswerOutput → N → Type 0) (old middle new : N) (xs ys : List AnswerOutput) → SendsAll sends old xs middle → SendsAll sends middle ys new → SendsAll sends old (xs ++ ys) new
all_on {N} sends old middle new [] ys first second = let P : N → Type 0 = λ n. SendsAll sends n ys new in subst P first second
all_on sends old middle new (x ∷ xs) ys (next, went, rest) second = (next, went, all_on sends next middle new xs ys rest second)

-- the outputs of one element more
pub went_on : {N X : Type 0} (sends : N → AnswerOutput → N → Type 0) (f : X → List AnswerOutput) (xs : List X) (i : ℕ) (x : X) (old middle new : N)
    → i < length xs → x ≡ get_or xs i x → SendsAll sends old (flat_map f (take i xs)) middle → SendsAll sends middle (f x) new → SendsAll sends old (flat_map f (take (i + 1) xs)) new
went_on sends f xs i x old middle new h is first second =
    let P : List AnswerOutput → Type 0 = λ os. SendsAll sends old os new in
    subst P (sym (flat_map_take_more f xs i x h is)) (all_on sends old middle new (flat_map f (take i xs)) (f x) first second)

-- a failure behind outputs that went, before others that did not
pub breaks_within : {N : Type 0} (sends fails : N → AnswerOutput → N → Type 0) (old middle new : N) (before some after all : List AnswerOutput)
    → SendsAll sends old before middle → BreaksOff sends fails middle some new → all ≡ before ++ (some ++ after) → BreaksOff sends fails old all new
breaks_within sends fails old middle new before some after all first broke is = record {
  done = before ++ broke.done;
  failed = broke.failed;
  unsent = broke.unsent ++ after;
  parts =
      is
      ∙ ap (λ os. before ++ (os ++ after)) broke.parts
      ∙ ap (λ os. before ++ os) (append_assoc broke.done (broke.failed ∷ broke.unsent) after)
      ∙ sym (append_assoc before broke.done (broke.failed ∷ (broke.unsent ++ after)));
  middle = broke.middle;
  went = all_on sends old middle broke.middle before broke.done first broke.went;
  fails_there = broke.fails_there;
}

-- one output
pub sends_one : {N F : Type 0} (is_ready : N → Type 0) (sends fails : N → AnswerOutput → N → Type 0) (old new : N) (output : AnswerOutput) (outputs : List AnswerOutput) (r : Result Unit F)
    → outputs ≡ output ∷ [] → Puts is_ready sends fails old output new r → Sends is_ready sends fails old outputs new r
sends_one is_ready sends fails old new output outputs (Ok done) is put = let P : List AnswerOutput → Type 0 = λ os. SendsAll sends old os new in (subst P (sym is) (new, put.0, refl), put.1)
sends_one is_ready sends fails old new output outputs (Err fault) is put = record { done = []; failed = output; unsent = []; parts = is; middle = old; went = refl; fails_there = put }

-- the last outputs behind the first ones
pub sends_behind : {N F : Type 0} (is_ready : N → Type 0) (sends fails : N → AnswerOutput → N → Type 0) (old middle new : N) (before more all : List AnswerOutput) (r : Result Unit F)
    → SendsAll sends old before middle → Sends is_ready sends fails middle more new r → all ≡ before ++ more → Sends is_ready sends fails old all new r
sends_behind {N} is_ready sends fails old middle new before more all (Ok done) first then is =
    let P : List AnswerOutput → Type 0 = λ os. SendsAll sends old os new in
    (subst P (sym is) (all_on sends old middle new before more first then.0), then.1)
sends_behind is_ready sends fails old middle new before more all (Err fault) first then is =
    breaks_within sends fails old middle new before more [] all first then (is ∙ ap (λ os. before ++ os) (sym (append-nil more)))
