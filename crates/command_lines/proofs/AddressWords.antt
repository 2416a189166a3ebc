-- Addresses as words.
use Rattle.std.proofs.Common.{◌≡◌, ℕ, List, [], ◌∷◌, ◌++◌, length, Option, Some, None, refl, sym, ap, subst, ◌∙◌, arith, eqb, false, cond}
use Rattle.std.specs.Prelude.{option_and_then}
use Rattle.std.specs.Int.{w32, from_be_bytes}
use Rattle.std.specs.Net.Grammar.{IsDotted, IsIpv4Text}
use Rattle.std.specs.Net.Reader.{read_ipv4}
use Rattle.std.specs.declared.net.ipv4_addr.Ipv4Addr.{Ipv4Addr}
use Rattle.std.proofs.lemmas.Bool.Decides.{nat_tests}
use Rattle.std.proofs.lemmas.List.{append-nil}
use Rattle.std.proofs.NetLemmas.Ipv4.{read_ipv4_complete, read_ipv4_sound}
use Rattle.trace_words.specs.Words.{node_of, address_bytes_only}

pub node_found : (word octets : List ℕ) (bits : ℕ) → IsDotted word octets → bits ≡ from_be_bytes w32 octets → Some (record { 0 = bits }) ≡ node_of word
unfolding node_of
node_found word octets bits h is =
    let read : read_ipv4 (word ++ []) ≡ Some (octets, []) = read_ipv4_complete word octets [] h (omega arith) in
    let here : read_ipv4 word ≡ Some (octets, []) = subst (λ w. read_ipv4 w ≡ Some (octets, [])) (append-nil word) read in
    rw here (ap (λ n. Some (record { 0 = n })) is)

some_left : (octets rest : List ℕ) (b : ℕ) → address_bytes_only (octets, b ∷ rest) ≡ None
some_left octets rest b = let above : eqb (length (b ∷ rest)) 0 ≡ false = grind (arith, nat_tests) in ap (λ c. cond c (Some (record { 0 = from_be_bytes w32 octets })) None) above

refused : (word : List ℕ) → ((a : Ipv4Addr) → ¬ (IsIpv4Text word a)) → (read : Option (List ℕ × List ℕ)) → read_ipv4 word ≡ read → None ≡ option_and_then address_bytes_only read
refused word none None is = refl
refused word none (Some (octets, [])) is =
    let (front, split, h) = read_ipv4_sound word octets [] is in
    absurd (none (record { octets = octets }) (subst (λ w. IsDotted w octets) (sym (split ∙ append-nil front)) h))
refused word none (Some (octets, b ∷ rest)) is = sym (some_left octets rest b)

pub node_refused : (word : List ℕ) → ((a : Ipv4Addr) → ¬ (IsIpv4Text word a)) → None ≡ node_of word
unfolding node_of
node_refused word none = refused word none (read_ipv4 word) refl
