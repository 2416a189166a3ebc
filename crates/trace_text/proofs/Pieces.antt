-- Texts that are appended one after the other.
use Rattle.std.proofs.Common.{◌≡◌, ℕ, List, ◌++◌, ap, ◌∙◌, append_assoc, refl}

pub two : (s0 s1 s2 a b text : List ℕ) → s1 ≡ s0 ++ a → s2 ≡ s1 ++ b → a ++ b ≡ text → s2 ≡ s0 ++ text
two s0 s1 s2 a b text one next is = next ∙ ap (λ s. s ++ b) one ∙ append_assoc s0 a b ∙ ap (λ t. s0 ++ t) is

pub three : (s0 s1 s2 s3 a b c text : List ℕ) → s1 ≡ s0 ++ a → s2 ≡ s1 ++ b → s3 ≡ s2 ++ c → a ++ (b ++ c) ≡ text → s3 ≡ s0 ++ text
three s0 s1 s2 s3 a b c text one next last is = two s0 s1 s3 a (b ++ c) text one (two s1 s2 s3 b c (b ++ c) next last refl) is
