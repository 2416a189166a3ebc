-- Addresses as words.
use Rattle.std.proofs.Common.{◌≡◌, ℕ, List, [], ◌∷◌, ◌++◌, length, Option, Some, None, refl, sym, ap, subst, ◌∙◌, arith, eqb, false, cond}
use Rattle.std.specs.Prelude.{option_and_then, option_map}
use Rattle.std.specs.Int.{w32, from_be_bytes}
use Rattle.std.specs.Net.Grammar.{IsDotted, IsIpv4Text}
use Rattle.std.specs.Net.Reader.{read_ipv4}
use Rattle.std.specs.declared.net.ipv4_addr.Ipv4Addr.{Ipv4Addr}
use Rattle.std.proofs.lemmas.Bool.Decides.{nat_tests}
use Rattle.std.proofs.lemmas.List.{append-nil, append_assoc}
use Rattle.std.proofs.NetLemmas.Ipv4.{read_ipv4_complete, read_ipv4_sound}
use Rattle.cip_types.specs.declared.names.Node.{Node}
use Rattle.std.specs.List.{slice_split}
use Rattle.trace_words.specs.Words.{node_of, address_bytes_only, all_nodes, nodes_of, is_dash}

pub node_found : (word octets : List ℕ) (bits : ℕ) → IsDotted word octets → bits ≡ from_be_bytes w32 octets → Some (record { 0 = bits }) ≡ node_of word
unfolding node_of
node_found word octets bits h is =
    let read : read_ipv4 (word ++ []) ≡ Some (octets, []) = read_ipv4_complete word octets [] h (omega arith) in
    let here : read_ipv4 word ≡ Some (octets, []) = subst (λ w. read_ipv4 w ≡ Some (octets, [])) (append-nil word) read in
    rw here (ap (λ n. Some (record { 0 = n })) is)

some_left : (octets rest : List ℕ) (b : ℕ) → address_bytes_only (octets, b ∷ rest) ≡ None
some_left octets rest b = let above : eqb (length (b ∷ rest)) 0 ≡ false = grind (arith, nat_tests) in ap (λ c. cond c (Some (record { 0 = from_be_bytes w32 octets })) None) above

refused : (word : List ℕ) → ((a : Ipv4Addr) → ¬ (IsIpv4Text word a)) → (read : Option (List ℕ × List ℕ)) → read_ipv4 word ≡ read → None ≡ option_and_then address_bytes_only read
refused word none None is = refl
refused word none (Some (octets, [])) is =
    let (front, split, h) = read_ipv4_sound word octets [] is in
    absurd (none (record { octets = octets }) (subst (λ w. IsDotted w octets) (sym (split ∙ append-nil front)) h))
refused word none (Some (octets, b ∷ rest)) is = sym (some_left octets rest b)

pub node_refused : (word : List ℕ) → ((a : Ipv4Addr) → ¬ (IsIpv4Text word a)) → None ≡ node_of word
unfolding node_of
node_refused word none = refused word none (read_ipv4 word) refl

-- ADDRESSES, ONE AFTER THE OTHER

abbrev pub behind : List Node → Option (List Node) → Option (List Node)
behind front more = option_map (λ nodes. front ++ nodes) more

pub none_yet : (front : List Node) (more : Option (List Node)) → front ≡ [] → more ≡ behind front more
none_yet front None is = refl
none_yet front (Some nodes) is = rw is refl

more_behind : (front : List Node) (node : Node) (more : Option (List Node)) → behind front (option_map (λ nodes. node ∷ nodes) more) ≡ behind (front ++ node ∷ []) more
more_behind front node None = refl
more_behind front node (Some nodes) = ap Some (sym (append_assoc front (node ∷ []) nodes))

pub node_more : (all : Option (List Node)) (front front' : List Node) (node : Node) (word : List ℕ) (words : List (List ℕ)) → all ≡ behind front (all_nodes (word ∷ words)) → Some node ≡ node_of word → front' ≡ front ++ node ∷ [] → all ≡ behind front' (all_nodes words)
node_more all front front' node word words so_far found pushed =
    so_far ∙ ap (λ n. behind front (option_and_then (λ node. option_map (λ nodes. node ∷ nodes) (all_nodes words)) n)) (sym found) ∙ more_behind front node (all_nodes words) ∙ ap (λ f. behind f (all_nodes words)) (sym pushed)

pub no_node : (all : Option (List Node)) (front : List Node) (word : List ℕ) (words : List (List ℕ)) → all ≡ behind front (all_nodes (word ∷ words)) → None ≡ node_of word → all ≡ None
no_node all front word words so_far none = so_far ∙ ap (λ n. behind front (option_and_then (λ node. option_map (λ nodes. node ∷ nodes) (all_nodes words)) n)) (sym none)

pub last_node : (all : Option (List Node)) (front front' : List Node) (node : Node) (word : List ℕ) → all ≡ behind front (all_nodes (word ∷ [])) → Some node ≡ node_of word → front' ≡ front ++ node ∷ [] → all ≡ Some front'
last_node all front front' node word so_far found pushed = node_more all front front' node word [] so_far found pushed ∙ ap Some (append-nil front')

-- a word that is no dash lists addresses
pub undashed : (word : List ℕ) (said : Option (List Node)) → is_dash word ≡ false → all_nodes (slice_split (λ byte. eqb byte 44) word) ≡ said → nodes_of word ≡ said
unfolding nodes_of
undashed word said plain is = ap (λ b. cond b (Some []) (all_nodes (slice_split (λ byte. eqb byte 44) word))) plain ∙ is
