-- The streams of a line: a scanner's slot after slot, device after device.
use Rattle.std.proofs.Common.{◌≡◌, ◌<◌, ℕ, ◌+◌, List, [], ◌∷◌, ◌++◌, map, drop, length, get_or, Option, refl, sym, ◌∙◌, ap, append_assoc}
use Rattle.std.proofs.lemmas.List.{at_drop_more}
use Rattle.cip_types.specs.declared.names.Node.{Node}
use Rattle.cip_tables.specs.declared.table.Config.{Config}
use Rattle.scanner_table.specs.declared.profile.SlotConfig.{SlotConfig}
use Rattle.line_threads.specs.declared.openings.StreamPlaces.{StreamPlaces}
use Rattle.line_threads.specs.Openings.{distinct, opening, openings_from, other_than, others_at, place_of, reached, target_of, without}
use Rattle.line_threads.proofs.Distinct.{adds, without_none}

-- the devices that are reached over the slots from a place on, after these
abbrev pub reaching : List Node → ℕ → List ℕ → List SlotConfig → List ℕ
reaching nodes own seen slots = seen ++ without seen (distinct (others_at nodes own (map target_of slots)))

pub reaches_begin : (nodes : List Node) (own : ℕ) (slots : List SlotConfig) (seen : List ℕ) → seen ≡ [] → reaching nodes own seen slots ≡ distinct (others_at nodes own (map target_of slots))
reaches_begin nodes own slots seen none =
    ap (λ (l : List ℕ). reaching nodes own l slots) none ∙ without_none (distinct (others_at nodes own (map target_of slots)))

pub reaches_more : (nodes : List Node) (own : ℕ) (slots : List SlotConfig) (i : ℕ) (slot : SlotConfig) (place : Option ℕ) (seen new all : List ℕ) → i < length slots → slot ≡ get_or slots i slot → place ≡ place_of nodes slot.target → new ≡ seen ++ without seen (other_than own place) → reaching nodes own seen (drop i slots) ≡ all → reaching nodes own new (drop (i + 1) slots) ≡ all
reaches_more nodes own slots i slot place seen new all lt is at pushed so_far =
    let rest = others_at nodes own (map target_of (drop (i + 1) slots)) in
    ap (λ (l : List ℕ). l ++ without l (distinct rest)) pushed
    ∙ adds own place seen rest
    ∙ ap (λ (p : Option ℕ). seen ++ without seen (distinct (other_than own p ++ rest))) at
    ∙ ap (λ (s : SlotConfig). reaching nodes own seen (s ∷ drop (i + 1) slots)) is
    ∙ sym (at_drop_more (reaching nodes own seen) slots i slot lt)
    ∙ so_far

-- DEVICES

-- these streams, and those of the devices from a place on
abbrev pub opening_on : List Node → ℕ → List StreamPlaces → List Config → List StreamPlaces
opening_on nodes place opened configs = opened ++ openings_from nodes place configs

from_more : (nodes : List Node) (place : ℕ) (config : Config) (configs : List Config) → openings_from nodes place (config ∷ configs) ≡ map (opening place) (reached nodes place config) ++ openings_from nodes (place + 1) configs
from_more nodes place config configs = refl

pub opens_more : (nodes : List Node) (configs : List Config) (i : ℕ) (config : Config) (places : List ℕ) (opened new all : List StreamPlaces) → i < length configs → config ≡ get_or configs i config → places ≡ reached nodes i config → new ≡ opened ++ map (opening i) places → opening_on nodes i opened (drop i configs) ≡ all → opening_on nodes (i + 1) new (drop (i + 1) configs) ≡ all
opens_more nodes configs i config places opened new all lt is found pushed so_far =
    let rest = openings_from nodes (i + 1) (drop (i + 1) configs) in
    ap (λ (l : List StreamPlaces). l ++ rest) pushed
    ∙ append_assoc opened (map (opening i) places) rest
    ∙ ap (λ (ps : List ℕ). opened ++ (map (opening i) ps ++ rest)) found
    ∙ ap (λ (l : List StreamPlaces). opened ++ l) (sym (from_more nodes i config (drop (i + 1) configs)))
    ∙ ap (λ (c : Config). opening_on nodes i opened (c ∷ drop (i + 1) configs)) is
    ∙ sym (at_drop_more (opening_on nodes i opened) configs i config lt)
    ∙ so_far
