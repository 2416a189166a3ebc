-- Texts of several pieces, which are appended one by one.
use Rattle.std.proofs.Common.{◌≡◌, ℕ, List, ◌++◌, ap, ◌∙◌}
use Rattle.std.proofs.lemmas.List.{append_assoc}

pub of_two : (begin next end a b : List ℕ) → next ≡ begin ++ a → end ≡ next ++ b → end ≡ begin ++ (a ++ b)
of_two begin next end a b one two = two ∙ ap (λ text. text ++ b) one ∙ append_assoc begin a b

pub of_three : (begin next third end a b c : List ℕ) → next ≡ begin ++ a → third ≡ next ++ b → end ≡ third ++ c → end ≡ begin ++ (a ++ (b ++ c))
of_three begin next third end a b c one two three = of_two begin next end a (b ++ c) one (of_two next third end b c two three)

pub of_four : (begin next third last end a b c d : List ℕ) → next ≡ begin ++ a → third ≡ next ++ b → last ≡ third ++ c → end ≡ last ++ d → end ≡ begin ++ (a ++ (b ++ (c ++ d)))
of_four begin next third last end a b c d one two three four = of_two begin next end a (b ++ (c ++ d)) one (of_three next third last end b c d two three four)
