-- The words of a configuration, one behind the other.
use Rattle.std.proofs.Common.{◌≡◌, ◌<◌, ◌+◌, ◌-◌, ℕ, suc, List, ◌++◌, codes, ap, sym, ◌∙◌, arith}
use Rattle.std.proofs.lemmas.List.{append_assoc}
use Rattle.eds_text.specs.Points.{member_text, members_text}
use Rattle.eds_text.specs.Sheet.{word_text, words_text}

one_more : (count place : ℕ) → place < count → count - place ≡ suc (count - (place + 1))
one_more count place lt = omega (arith, lt)

-- parameters: one is at the front, as long as one is left
words_more : (place count : ℕ) → place < count → words_text place (count - place) ≡ word_text place ++ words_text (place + 1) (count - (place + 1))
words_more place count lt = ap (λ (left : ℕ). words_text place left) (one_more count place lt)

-- members: one with a comma, as long as others are behind it
members_more : (place count : ℕ) → place < count - 1 → members_text place (count - place) ≡ member_text place (codes ",\n") ++ members_text (place + 1) (count - (place + 1))
members_more place count lt =
    let two : count - place ≡ suc (suc (count - (place + 2))) = omega (arith, lt) in
    let one : suc (count - (place + 2)) ≡ count - (place + 1) = omega (arith, lt) in
    ap (λ (left : ℕ). members_text place left) two ∙ ap (λ (left : ℕ). member_text place (codes ",\n") ++ members_text (place + 1) left) one

-- ---- as they are appended

pub words_step : (out : List ℕ) (place count : ℕ) → place < count → (out ++ word_text place) ++ words_text (place + 1) (count - (place + 1)) ≡ out ++ words_text place (count - place)
words_step out place count lt =
    append_assoc out (word_text place) (words_text (place + 1) (count - (place + 1)))
    ∙ ap (λ (text : List ℕ). out ++ text) (sym (words_more place count lt))

pub members_step : (out : List ℕ) (place count : ℕ) → place < count - 1 → (out ++ member_text place (codes ",\n")) ++ members_text (place + 1) (count - (place + 1)) ≡ out ++ members_text place (count - place)
members_step out place count lt =
    append_assoc out (member_text place (codes ",\n")) (members_text (place + 1) (count - (place + 1)))
    ∙ ap (λ (text : List ℕ). out ++ text) (sym (members_more place count lt))

-- nine texts, one behind the other
pub nine_texts : (a b c d e f g h i : List ℕ) → a ++ b ++ c ++ d ++ e ++ f ++ g ++ h ++ i ≡ a ++ (b ++ (c ++ (d ++ (e ++ (f ++ (g ++ (h ++ i)))))))
nine_texts a b c d e f g h i =
    append_assoc (a ++ b ++ c ++ d ++ e ++ f ++ g) h i
    ∙ append_assoc (a ++ b ++ c ++ d ++ e ++ f) g (h ++ i)
    ∙ append_assoc (a ++ b ++ c ++ d ++ e) f (g ++ (h ++ i))
    ∙ append_assoc (a ++ b ++ c ++ d) e (f ++ (g ++ (h ++ i)))
    ∙ append_assoc (a ++ b ++ c) d (e ++ (f ++ (g ++ (h ++ i))))
    ∙ append_assoc (a ++ b) c (d ++ (e ++ (f ++ (g ++ (h ++ i)))))
    ∙ append_assoc a b (c ++ (d ++ (e ++ (f ++ (g ++ (h ++ i))))))
