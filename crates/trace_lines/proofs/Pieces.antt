-- Texts that are appended one after the other.
use Rattle.std.proofs.Common.{◌≡◌, ℕ, List, ◌++◌, ap, ◌∙◌, append_assoc, refl}

pub two : (s0 s1 s2 a b text : List ℕ) → s1 ≡ s0 ++ a → s2 ≡ s1 ++ b → a ++ b ≡ text → s2 ≡ s0 ++ text
two s0 s1 s2 a b text one next is = next ∙ ap (λ s. s ++ b) one ∙ append_assoc s0 a b ∙ ap (λ t. s0 ++ t) is

pub three : (s0 s1 s2 s3 a b c text : List ℕ) → s1 ≡ s0 ++ a → s2 ≡ s1 ++ b → s3 ≡ s2 ++ c → a ++ (b ++ c) ≡ text → s3 ≡ s0 ++ text
three s0 s1 s2 s3 a b c text one next last is = two s0 s1 s3 a (b ++ c) text one (two s1 s2 s3 b c (b ++ c) next last refl) is

pub four : (s0 s1 s2 s3 s4 a b c d text : List ℕ) → s1 ≡ s0 ++ a → s2 ≡ s1 ++ b → s3 ≡ s2 ++ c → s4 ≡ s3 ++ d → a ++ (b ++ (c ++ d)) ≡ text → s4 ≡ s0 ++ text
four s0 s1 s2 s3 s4 a b c d text e1 e2 e3 e4 is = two s0 s1 s4 a (b ++ (c ++ d)) text e1 (three s1 s2 s3 s4 b c d (b ++ (c ++ d)) e2 e3 e4 refl) is

pub five : (s0 s1 s2 s3 s4 s5 a b c d e text : List ℕ) → s1 ≡ s0 ++ a → s2 ≡ s1 ++ b → s3 ≡ s2 ++ c → s4 ≡ s3 ++ d → s5 ≡ s4 ++ e → a ++ (b ++ (c ++ (d ++ e))) ≡ text → s5 ≡ s0 ++ text
five s0 s1 s2 s3 s4 s5 a b c d e text e1 e2 e3 e4 e5 is = two s0 s1 s5 a (b ++ (c ++ (d ++ e))) text e1 (four s1 s2 s3 s4 s5 b c d e (b ++ (c ++ (d ++ e))) e2 e3 e4 e5 refl) is

pub six : (s0 s1 s2 s3 s4 s5 s6 a b c d e f text : List ℕ) → s1 ≡ s0 ++ a → s2 ≡ s1 ++ b → s3 ≡ s2 ++ c → s4 ≡ s3 ++ d → s5 ≡ s4 ++ e → s6 ≡ s5 ++ f → a ++ (b ++ (c ++ (d ++ (e ++ f)))) ≡ text → s6 ≡ s0 ++ text
six s0 s1 s2 s3 s4 s5 s6 a b c d e f text e1 e2 e3 e4 e5 e6 is = two s0 s1 s6 a (b ++ (c ++ (d ++ (e ++ f)))) text e1 (five s1 s2 s3 s4 s5 s6 b c d e f (b ++ (c ++ (d ++ (e ++ f)))) e2 e3 e4 e5 e6 refl) is

pub seven : (s0 s1 s2 s3 s4 s5 s6 s7 a b c d e f g text : List ℕ) → s1 ≡ s0 ++ a → s2 ≡ s1 ++ b → s3 ≡ s2 ++ c → s4 ≡ s3 ++ d → s5 ≡ s4 ++ e → s6 ≡ s5 ++ f → s7 ≡ s6 ++ g → a ++ (b ++ (c ++ (d ++ (e ++ (f ++ g))))) ≡ text → s7 ≡ s0 ++ text
seven s0 s1 s2 s3 s4 s5 s6 s7 a b c d e f g text e1 e2 e3 e4 e5 e6 e7 is = two s0 s1 s7 a (b ++ (c ++ (d ++ (e ++ (f ++ g))))) text e1 (six s1 s2 s3 s4 s5 s6 s7 b c d e f g (b ++ (c ++ (d ++ (e ++ (f ++ g))))) e2 e3 e4 e5 e6 e7 refl) is

pub eight : (s0 s1 s2 s3 s4 s5 s6 s7 s8 a b c d e f g h text : List ℕ) → s1 ≡ s0 ++ a → s2 ≡ s1 ++ b → s3 ≡ s2 ++ c → s4 ≡ s3 ++ d → s5 ≡ s4 ++ e → s6 ≡ s5 ++ f → s7 ≡ s6 ++ g → s8 ≡ s7 ++ h → a ++ (b ++ (c ++ (d ++ (e ++ (f ++ (g ++ h)))))) ≡ text → s8 ≡ s0 ++ text
eight s0 s1 s2 s3 s4 s5 s6 s7 s8 a b c d e f g h text e1 e2 e3 e4 e5 e6 e7 e8 is = two s0 s1 s8 a (b ++ (c ++ (d ++ (e ++ (f ++ (g ++ h)))))) text e1 (seven s1 s2 s3 s4 s5 s6 s7 s8 b c d e f g h (b ++ (c ++ (d ++ (e ++ (f ++ (g ++ h)))))) e2 e3 e4 e5 e6 e7 e8 refl) is

pub nine : (s0 s1 s2 s3 s4 s5 s6 s7 s8 s9 a b c d e f g h i text : List ℕ) → s1 ≡ s0 ++ a → s2 ≡ s1 ++ b → s3 ≡ s2 ++ c → s4 ≡ s3 ++ d → s5 ≡ s4 ++ e → s6 ≡ s5 ++ f → s7 ≡ s6 ++ g → s8 ≡ s7 ++ h → s9 ≡ s8 ++ i → a ++ (b ++ (c ++ (d ++ (e ++ (f ++ (g ++ (h ++ i))))))) ≡ text → s9 ≡ s0 ++ text
nine s0 s1 s2 s3 s4 s5 s6 s7 s8 s9 a b c d e f g h i text e1 e2 e3 e4 e5 e6 e7 e8 e9 is = two s0 s1 s9 a (b ++ (c ++ (d ++ (e ++ (f ++ (g ++ (h ++ i))))))) text e1 (eight s1 s2 s3 s4 s5 s6 s7 s8 s9 b c d e f g h i (b ++ (c ++ (d ++ (e ++ (f ++ (g ++ (h ++ i))))))) e2 e3 e4 e5 e6 e7 e8 e9 refl) is
