-- Bytes that are appended one after the other.
use Rattle.std.proofs.Common.{◌≡◌, ℕ, List, ◌++◌, ap, ◌∙◌, append_assoc}

pub two : (s0 s1 s2 a b : List ℕ) → s1 ≡ s0 ++ a → s2 ≡ s1 ++ b → s2 ≡ s0 ++ (a ++ b)
two s0 s1 s2 a b one next = next ∙ ap (λ s. s ++ b) one ∙ append_assoc s0 a b

pub three : (s0 s1 s2 s3 a b c : List ℕ) → s1 ≡ s0 ++ a → s2 ≡ s1 ++ b → s3 ≡ s2 ++ c → s3 ≡ s0 ++ (a ++ (b ++ c))
three s0 s1 s2 s3 a b c e1 e2 e3 = two s0 s1 s3 a (b ++ c) e1 (two s1 s2 s3 b c e2 e3)

pub four : (s0 s1 s2 s3 s4 a b c d : List ℕ) → s1 ≡ s0 ++ a → s2 ≡ s1 ++ b → s3 ≡ s2 ++ c → s4 ≡ s3 ++ d → s4 ≡ s0 ++ (a ++ (b ++ (c ++ d)))
four s0 s1 s2 s3 s4 a b c d e1 e2 e3 e4 = two s0 s1 s4 a (b ++ (c ++ d)) e1 (three s1 s2 s3 s4 b c d e2 e3 e4)

pub seven : (s0 s1 s2 s3 s4 s5 s6 s7 a b c d e f g : List ℕ) → s1 ≡ s0 ++ a → s2 ≡ s1 ++ b → s3 ≡ s2 ++ c → s4 ≡ s3 ++ d → s5 ≡ s4 ++ e → s6 ≡ s5 ++ f → s7 ≡ s6 ++ g → s7 ≡ s0 ++ (a ++ (b ++ (c ++ (d ++ (e ++ (f ++ g))))))
seven s0 s1 s2 s3 s4 s5 s6 s7 a b c d e f g e1 e2 e3 e4 e5 e6 e7 = three s0 s1 s2 s7 a b (c ++ (d ++ (e ++ (f ++ g)))) e1 e2 (three s2 s3 s4 s7 c d (e ++ (f ++ g)) e3 e4 (three s4 s5 s6 s7 e f g e5 e6 e7))
