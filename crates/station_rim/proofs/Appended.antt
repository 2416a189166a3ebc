-- What a write that took nothing leaves: the known bytes as they were, with no bytes behind them.
use Rattle.std.proofs.Common.{◌≡◌, ℕ, List, ◌++◌, Option, Some, None, sym, ap, ◌∙◌, append_assoc, append-nil, take, drop, length, ◌-◌, take-append-drop}
use Rattle.std.proofs.lemmas.List.{take_rest}
use Rattle.std.specs.Io.KnownBytes.{Appends, Keeps}

pub nothing_is_appended : (old new : Option (List ℕ)) (text : List ℕ) → Keeps old new → Appends old new (take 0 text)
nothing_is_appended None new text kept = tt
nothing_is_appended (Some x) None text kept = absurd kept
nothing_is_appended (Some x) (Some y) text kept = kept ∙ sym (append-nil x)

pub nothing_was_appended : (old new : Option (List ℕ)) (text : List ℕ) → Appends old new (take 0 text) → Keeps old new
nothing_was_appended None new text is = tt
nothing_was_appended (Some x) None text is = absurd is
nothing_was_appended (Some x) (Some y) text is = is ∙ append-nil x

pub more_is_appended : (a b c : Option (List ℕ)) (done more : List ℕ) → Appends a b done → Appends b c more → Appends a c (done ++ more)
more_is_appended None b c done more is behind = tt
more_is_appended (Some x) None c done more is behind = absurd is
more_is_appended (Some x) (Some y) None done more is behind = absurd behind
more_is_appended (Some x) (Some y) (Some z) done more is behind = behind ∙ ap (λ (l : List ℕ). l ++ more) is ∙ append_assoc x done more

pub kept_behind : (a b c : Option (List ℕ)) (done : List ℕ) → Appends a b done → Keeps b c → Appends a c done
kept_behind None b c done is kept = tt
kept_behind (Some x) None c done is kept = absurd is
kept_behind (Some x) (Some y) None done is kept = absurd kept
kept_behind (Some x) (Some y) (Some z) done is kept = kept ∙ is

pub moves_front : (all done rest : List ℕ) (n : ℕ) → all ≡ done ++ rest → all ≡ (done ++ take n rest) ++ take (length rest - n) (drop n rest)
moves_front all done rest n e =
    e ∙ ap (λ (l : List ℕ). done ++ l) (sym (take-append-drop n rest)) ∙ sym (append_assoc done (take n rest) (drop n rest)) ∙ ap (λ (l : List ℕ). (done ++ take n rest) ++ l) (sym (take_rest rest n))
