-- Addresses one after the other are read back.
use Rattle.std.proofs.Common.{◌≡◌, ℕ, zero, suc, ◌<◌, ◌^◌, Bool, true, false, List, [], ◌∷◌, ◌++◌, length, get_or, Option, Some, refl, ap, ◌∙◌, arith, eqb, inl, inr}
use Rattle.std.specs.Prelude.{decimal, codes, flat_map, option_map, option_and_then}
use Rattle.std.specs.List.{All, slice_index, slice_split}
use Rattle.std.specs.Int.{w32, to_be_bytes}
use Rattle.std.specs.Char.{is_ascii_digit}
use Rattle.std.specs.Str.{all_ascii_digits}
use Rattle.std.specs.Str.Parse.{digits_value}
use Rattle.std.specs.Net.Text.{dotted_text}
use Rattle.std.proofs.lemmas.Bool.Decides.{nat_tests}
use Rattle.std.proofs.lemmas.Fmt.{digits_decimal, decimal_nonempty}
use Rattle.std.proofs.lemmas.List.{append-nil}
use Rattle.std.proofs.lemmas.List.Splits.{slice_split_at, slice_split_none}
use Rattle.std.proofs.lemmas.Str.Parse.{IsNumeralModel, numerals_by_value, tells_all_ascii_digits}
use Rattle.std.proofs.NetLemmas.Alphabet.{All-ipv4_text, IsDigitOrDot}
use Rattle.cip_types.specs.declared.names.Node.{Node}
use Rattle.trace_words.specs.Words.{node_word, nodes_word, nodes_of, all_nodes, is_dash}
use Rattle.trace_laws.proofs.LineLaws.{is_clean, both, and_both, all_of, is_plain}
use Rattle.trace_laws.proofs.CleanWords.{node_clean}
use Rattle.trace_laws.proofs.TextLaws.{first_of, rest_of}
use Rattle.trace_laws.proofs.WordLaws.{node_back}

own : IsNumeralModel (λ word. all_ascii_digits word ≡ true) (digits_value 10)
own = numerals_by_value _ tells_all_ascii_digits

fit_4 : (n k : ℕ) → get_or (to_be_bytes w32 n) k 0 < 2 ^ 8
fit_4 n zero = omega arith
fit_4 n (suc zero) = omega arith
fit_4 n (suc (suc zero)) = omega arith
fit_4 n (suc (suc (suc zero))) = omega arith
fit_4 n (suc (suc (suc (suc i)))) = omega arith

no_comma : (byte : ℕ) → IsDigitOrDot byte → eqb byte 44 ≡ false
no_comma byte (inl digit) = grind (arith, nat_tests, digit.0, digit.1)
no_comma byte (inr dot) = grind (arith, nat_tests, dot)

whole_word : (node : Node) → All (λ byte. eqb byte 44 ≡ false) (node_word node)
whole_word node k d below = no_comma _ (All-ipv4_text (to_be_bytes w32 node.0) (fit_4 node.0) k d below)

abbrev others : List Node → List ℕ
others nodes = flat_map (λ other. codes "," ++ node_word other) nodes

parted : (node : Node) (nodes : List Node) → All (λ n. n.0 < 2 ^ 32) (node ∷ nodes) → all_nodes (slice_split (λ byte. eqb byte 44) (node_word node ++ others nodes)) ≡ Some (node ∷ nodes)
parted node [] fit =
    let alone : slice_split (λ byte. eqb byte 44) (node_word node ++ []) ≡ node_word node ∷ [] = ap (slice_split (λ byte. eqb byte 44)) (append-nil (node_word node)) ∙ slice_split_none (λ byte. eqb byte 44) (node_word node) (whole_word node) in
    ap all_nodes alone ∙ ap (λ n. option_and_then (λ found. option_map (λ more. found ∷ more) (Some [])) n) (node_back node (first_of (λ n. n.0 < 2 ^ 32) node [] fit))
parted node (next ∷ nodes) fit =
    let front : slice_split (λ byte. eqb byte 44) (node_word node ++ others (next ∷ nodes)) ≡ node_word node ∷ slice_split (λ byte. eqb byte 44) (node_word next ++ others nodes) = slice_split_at (λ byte. eqb byte 44) (node_word node) 44 (node_word next ++ others nodes) (whole_word node) refl in
    ap all_nodes front
    ∙ ap (λ n. option_and_then (λ found. option_map (λ more. found ∷ more) (all_nodes (slice_split (λ byte. eqb byte 44) (node_word next ++ others nodes)))) n) (node_back node (first_of (λ n. n.0 < 2 ^ 32) node (next ∷ nodes) fit))
    ∙ ap (λ all. option_map (λ more. node ∷ more) all) (parted next nodes (rest_of (λ n. n.0 < 2 ^ 32) node (next ∷ nodes) fit))

-- a digit in front
abbrev begins_digit : List ℕ → Bool
begins_digit [] = false
begins_digit (c ∷ cs) = is_ascii_digit c

begins_more : (a b : List ℕ) → begins_digit a ≡ true → begins_digit (a ++ b) ≡ true
begins_more [] b begins = absurd (cc)
begins_more (c ∷ cs) b begins = begins

no_dash : (word : List ℕ) → begins_digit word ≡ true → is_dash word ≡ false
no_dash [] begins = refl
no_dash (c ∷ cs) begins = let other : eqb c 45 ≡ false = grind (arith, nat_tests, begins) in rw other refl

digits_begin : (word : List ℕ) → 0 < length word → all_ascii_digits word ≡ true → begins_digit word ≡ true
digits_begin [] some digits = absurd (omega (arith, some))
digits_begin (c ∷ cs) some digits = (both (is_ascii_digit c) (all_ascii_digits cs) digits).0

dotted_begins : (a b c d : ℕ) → a < 2 ^ 64 → begins_digit (dotted_text a b c d) ≡ true
dotted_begins a b c d fits =
    let one : begins_digit (decimal a) ≡ true = digits_begin (decimal a) (decimal_nonempty a fits) (digits_decimal own a fits) in
    let two : begins_digit (decimal a ++ codes ".") ≡ true = begins_more (decimal a) (codes ".") one in
    let three : begins_digit (decimal a ++ codes "." ++ decimal b) ≡ true = begins_more (decimal a ++ codes ".") (decimal b) two in
    let four : begins_digit (decimal a ++ codes "." ++ decimal b ++ codes ".") ≡ true = begins_more (decimal a ++ codes "." ++ decimal b) (codes ".") three in
    let five : begins_digit (decimal a ++ codes "." ++ decimal b ++ codes "." ++ decimal c) ≡ true = begins_more (decimal a ++ codes "." ++ decimal b ++ codes ".") (decimal c) four in
    let six : begins_digit (decimal a ++ codes "." ++ decimal b ++ codes "." ++ decimal c ++ codes ".") ≡ true = begins_more (decimal a ++ codes "." ++ decimal b ++ codes "." ++ decimal c) (codes ".") five in
    begins_more (decimal a ++ codes "." ++ decimal b ++ codes "." ++ decimal c ++ codes ".") (decimal d) six

undashed : (node : Node) (rest : List ℕ) → is_dash (node_word node ++ rest) ≡ false
undashed node rest =
    let small : slice_index (to_be_bytes w32 node.0) 0 < 2 ^ 8 = fit_4 node.0 0 in
    no_dash (node_word node ++ rest) (begins_more (node_word node) rest (dotted_begins (slice_index (to_be_bytes w32 node.0) 0) (slice_index (to_be_bytes w32 node.0) 1) (slice_index (to_be_bytes w32 node.0) 2) (slice_index (to_be_bytes w32 node.0) 3) (omega (arith, small))))

plain : (word : List ℕ) (said : Option (List Node)) → is_dash word ≡ false → all_nodes (slice_split (λ byte. eqb byte 44) word) ≡ said → nodes_of word ≡ said
unfolding nodes_of
plain word said other is = rw other is

pub nodes_back : (nodes : List Node) → All (λ node. node.0 < 2 ^ 32) nodes → nodes_of (nodes_word nodes) ≡ Some nodes
unfolding nodes_of
nodes_back [] fit = refl
nodes_back (node ∷ nodes) fit = plain (node_word node ++ others nodes) (Some (node ∷ nodes)) (undashed node (others nodes)) (parted node nodes fit)

others_clean : (nodes : List Node) → is_clean (others nodes) ≡ true
others_clean [] = refl
others_clean (node ∷ nodes) = all_of is_plain (codes "," ++ node_word node) (others nodes) (and_both (is_plain 44) (is_clean (node_word node)) refl (node_clean node)) (others_clean nodes)

pub nodes_clean : (nodes : List Node) → is_clean (nodes_word nodes) ≡ true
nodes_clean [] = refl
nodes_clean (node ∷ nodes) = all_of is_plain (node_word node) (others nodes) (node_clean node) (others_clean nodes)
