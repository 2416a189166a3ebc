-- What is appended to a text, one part behind the other.
use Rattle.std.proofs.Common.{◌≡◌, ℕ, List, ◌++◌, ap, ◌∙◌}
use Rattle.std.proofs.lemmas.List.{append_assoc}

pub two : (old first second one new : List ℕ) → one ≡ old ++ first → new ≡ one ++ second → new ≡ old ++ (first ++ second)
two old first second one new begins ends = ends ∙ ap (λ l. l ++ second) begins ∙ append_assoc old first second

pub three : (old first second third one both new : List ℕ) → one ≡ old ++ first → both ≡ one ++ second → new ≡ both ++ third → new ≡ old ++ (first ++ (second ++ third))
three old first second third one both new begins goes ends = two old first (second ++ third) one new begins (two one second third both new goes ends)
