use Rattle.std.proofs.Common.{◌≡◌, ℕ, List, ◌++◌, append_assoc, refl}
use Rattle.plant_rim.proofs.named.push_report.Goals as goal

-- four texts, appended one behind another
four : (out a b c d one two three all : List ℕ) → one ≡ out ++ a → two ≡ one ++ b → three ≡ two ++ c → all ≡ three ++ d → all ≡ out ++ (a ++ (b ++ (c ++ d)))
four out a b c d one two three all is-one is-two is-three is-all = rw (is-all, is-three, is-two, is-one) (simp append_assoc refl)

pub returns : goal.returns
returns c = four _ _ _ _ _ _ _ _ _ c.in_ok-extend_from_slice.ensures.items c.in_ok-extend_from_slice-2.ensures.items c.in_ok-extend_from_slice-3.ensures.items (rw c.bare.ensures at c.in_ok-extend_from_slice-4.ensures.items)
