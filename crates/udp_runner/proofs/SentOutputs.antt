-- What is sent of a list, one element after another.
use Rattle.std.proofs.Common.{◌≡◌, ◌<◌, ℕ, ◌+◌, List, [], ◌∷◌, ◌++◌, length, take, drop, get_or, Result, Ok, Err, OnOk, OnErr, refl, ap, ◌∙◌, sym, append_assoc, append-nil}
use Rattle.std.specs.List.{flat_map}
use Rattle.std.proofs.lemmas.List.{take-append-drop, drop_more}
use Rattle.udp_runner.specs.declared.output.SentOutput.{SentOutput}
use Rattle.udp_runner.specs.Outputs.{SendsSome}
use Rattle.udp_runner.specs.Tape.{Tape, with_sent}

pub flat_map-append : {X : Type 0} (f : X → List SentOutput) (xs ys : List X) → flat_map f (xs ++ ys) ≡ flat_map f xs ++ flat_map f ys
flat_map-append f [] ys = refl
flat_map-append f (x ∷ xs) ys = ap (λ os. f x ++ os) (flat_map-append f xs ys) ∙ sym (append_assoc (f x) (flat_map f xs) (flat_map f ys))

-- what is sent of all is what is sent of the first ones, of the next one, and of the others
pub flat_map_parts : {X : Type 0} (f : X → List SentOutput) (xs : List X) (i : ℕ) (x : X) → i < length xs → x ≡ get_or xs i x → flat_map f xs ≡ flat_map f (take i xs) ++ (f x ++ flat_map f (drop (i + 1) xs))
flat_map_parts f xs i x h is =
    ap (flat_map f) (sym (take-append-drop i xs))
    ∙ flat_map-append f (take i xs) (drop i xs)
    ∙ ap (λ ys. flat_map f (take i xs) ++ flat_map f ys) (drop_more xs i x h)
    ∙ ap (λ y. flat_map f (take i xs) ++ (f y ++ flat_map f (drop (i + 1) xs))) (sym is)

-- two lists are sent one after the other
pub sends_both : (old middle new : Tape) (xs ys : List SentOutput) → middle ≡ with_sent old xs → new ≡ with_sent middle ys → new ≡ with_sent old (xs ++ ys)
sends_both old middle new xs ys first second = second ∙ ap (λ (t : Tape). with_sent t ys) first ∙ ap (λ os. record old { sent = os }) (append_assoc old.sent xs ys)

pub sends_none : (old : Tape) → old ≡ with_sent old []
sends_none old = ap (λ os. record old { sent = os }) (sym (append-nil old.sent))

-- a list that is sent in part, between one that was sent and one that is not
pub some_within : (old middle new : Tape) (before some after all : List SentOutput) → middle ≡ with_sent old before → SendsSome middle new some → all ≡ before ++ (some ++ after) → SendsSome old new all
some_within old middle new before some after all first part is = record {
  done = before ++ part.done;
  failed = part.failed;
  unsent = part.unsent ++ after;
  parts =
      is
      ∙ ap (λ os. before ++ (os ++ after)) part.parts
      ∙ ap (λ os. before ++ os) (append_assoc part.done (part.failed ∷ part.unsent) after)
      ∙ sym (append_assoc before part.done (part.failed ∷ (part.unsent ++ after)));
  sends = sends_both old middle new before part.done first part.sends;
}

-- one output that is not sent
pub one_unsent : (old new : Tape) (o : SentOutput) → new ≡ old → SendsSome old new (o ∷ [])
one_unsent old new o same = record { done = []; failed = o; unsent = []; parts = refl; sends = same ∙ sends_none old }

pub on_err_is : {T E : Type 0} (r : Result T E) (Q : Type 0) → Q → OnErr r Q
on_err_is (Ok x) Q q = tt
on_err_is (Err e) Q q = q

-- what follows where a call does not fail, and where it fails
pub on_ok_map : {T E : Type 0} (r : Result T E) (P Q : Type 0) → (P → Q) → OnOk r P → OnOk r Q
on_ok_map (Ok x) P Q f p = f p
on_ok_map (Err e) P Q f p = tt

pub on_err_map : {T E : Type 0} (r : Result T E) (P Q : Type 0) → (P → Q) → OnErr r P → OnErr r Q
on_err_map (Ok x) P Q f p = tt
on_err_map (Err e) P Q f p = f p

-- the first of two lists is sent in part, or all of it and the second one in part
pub some_first : (old new : Tape) (xs ys : List SentOutput) → SendsSome old new xs → SendsSome old new (xs ++ ys)
some_first old new xs ys part = some_within old old new [] xs ys (xs ++ ys) (sends_none old) part refl

pub some_second : (old middle new : Tape) (xs ys : List SentOutput) → middle ≡ with_sent old xs → SendsSome middle new ys → SendsSome old new (xs ++ ys)
some_second old middle new xs ys first part = some_within old middle new xs ys [] (xs ++ ys) first part (ap (λ os. xs ++ os) (sym (append-nil ys)))
