-- Texts that are appended one behind another.
use Rattle.std.proofs.Common.{◌≡◌, ℕ, List, ◌++◌, ap, ◌∙◌}
use Rattle.std.proofs.lemmas.List.{append_assoc}

-- two texts
pub two : (old one new a b : List ℕ) → one ≡ old ++ a → new ≡ one ++ b → new ≡ old ++ (a ++ b)
two old one new a b first second = second ∙ ap (λ t. t ++ b) first ∙ append_assoc old a b

-- three texts
pub three : (old one mid new a b c : List ℕ) → one ≡ old ++ a → mid ≡ one ++ b → new ≡ mid ++ c → new ≡ old ++ (a ++ (b ++ c))
three old one mid new a b c first second third = two old one new a (b ++ c) first (two one mid new b c second third)

-- four texts
pub four : (old one mid late new a b c d : List ℕ) → one ≡ old ++ a → mid ≡ one ++ b → late ≡ mid ++ c → new ≡ late ++ d → new ≡ old ++ (a ++ (b ++ (c ++ d)))
four old one mid late new a b c d first second third fourth = two old one new a (b ++ (c ++ d)) first (three one mid late new b c d second third fourth)

-- five texts
pub five : (old one mid late last new a b c d e : List ℕ) → one ≡ old ++ a → mid ≡ one ++ b → late ≡ mid ++ c → last ≡ late ++ d → new ≡ last ++ e → new ≡ old ++ (a ++ (b ++ (c ++ (d ++ e))))
five old one mid late last new a b c d e first second third fourth fifth = three old one mid new a b (c ++ (d ++ e)) first second (three mid late last new c d e third fourth fifth)

-- six texts
pub six : (old one mid late last final new a b c d e f : List ℕ) → one ≡ old ++ a → mid ≡ one ++ b → late ≡ mid ++ c → last ≡ late ++ d → final ≡ last ++ e → new ≡ final ++ f → new ≡ old ++ (a ++ (b ++ (c ++ (d ++ (e ++ f)))))
six old one mid late last final new a b c d e f first second third fourth fifth sixth = two old one new a (b ++ (c ++ (d ++ (e ++ f)))) first (five one mid late last final new b c d e f second third fourth fifth sixth)

-- a text that another one is equal to
pub named : (old new t s : List ℕ) → new ≡ old ++ t → t ≡ s → new ≡ old ++ s
named old new t s is same = is ∙ ap (λ u. old ++ u) same

-- a text of three parts, and another
pub behind : (old one new a b c d : List ℕ) → one ≡ old ++ (a ++ (b ++ c)) → new ≡ one ++ d → new ≡ old ++ (a ++ (b ++ (c ++ d)))
behind old one new a b c d first second = second ∙ ap (λ t. t ++ d) first ∙ append_assoc old (a ++ (b ++ c)) d ∙ ap (λ t. old ++ t) (append_assoc a (b ++ c) d ∙ ap (λ t. a ++ t) (append_assoc b c d))

-- a text of three parts, and two others
pub behind_two : (old one mid new a b c d e : List ℕ) → one ≡ old ++ (a ++ (b ++ c)) → mid ≡ one ++ d → new ≡ mid ++ e → new ≡ old ++ (a ++ (b ++ (c ++ (d ++ e))))
behind_two old one mid new a b c d e first second third = behind old one new a b c (d ++ e) first (two one mid new d e second third)
