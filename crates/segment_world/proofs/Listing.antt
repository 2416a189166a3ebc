-- Configurations, one after another.
use Rattle.std.proofs.Common.{◌≡◌, ◌<◌, ◌≤◌, ℕ, ◌+◌, ◌==◌, ◌||◌, Bool, true, false, List, [], ◌∷◌, ◌++◌, map, drop, length, get_or, Option, Some, None, refl, sym, ◌∙◌, ap}
use Rattle.std.specs.List.{list_any}
use Rattle.std.proofs.lemmas.List.{at_drop_more, at_drop_all, append_assoc, map-append}
use Rattle.cip_events.specs.declared.profile_fault.ProfileFault.{ProfileFault}
use Rattle.cip_tables.specs.declared.table.Config.{Config}
use Rattle.cip_tables.specs.declared.table.DeviceTable.{DeviceTable}
use Rattle.cip_tables.specs.Step.{opening_table, config_fault}
use Rattle.segment_world.specs.declared.configs.DeviceKey.{DeviceKey}
use Rattle.segment_world.specs.Configs.{key_in, any_twice, fault_or, first_fault}

-- TWICE

twice_at : (key : DeviceKey) (configs : List Config) (i : ℕ) (config : Config) → i < length configs → config ≡ get_or configs i config → any_twice key (drop i configs) ≡ (list_any (λ other. key_in key other == key_in key config) (drop (i + 1) configs) || any_twice key (drop (i + 1) configs))
unfolding any_twice
twice_at key configs i config lt is =
    at_drop_more (any_twice key) configs i config lt
    ∙ ap (λ (c : Config). list_any (λ other. key_in key other == key_in key c) (drop (i + 1) configs) || any_twice key (drop (i + 1) configs)) (sym is)

pub twice_here : (key : DeviceKey) (configs : List Config) (i : ℕ) (config : Config) (value : ℕ) (found : Bool) → i < length configs → config ≡ get_or configs i config → value ≡ key_in key config → found ≡ list_any (λ other. key_in key other == value) (drop (i + 1) configs) → any_twice key (drop i configs) ≡ any_twice key configs → found ≡ true → true ≡ any_twice key configs
twice_here key configs i config value found lt is value_is found_is so_far here_is =
    let here : list_any (λ other. key_in key other == key_in key config) (drop (i + 1) configs) ≡ true = ap (λ (v : ℕ). list_any (λ other. key_in key other == v) (drop (i + 1) configs)) (sym value_is) ∙ sym found_is ∙ here_is in
    sym (ap (λ b. b || any_twice key (drop (i + 1) configs)) here) ∙ sym (twice_at key configs i config lt is) ∙ so_far

pub twice_later : (key : DeviceKey) (configs : List Config) (i : ℕ) (config : Config) (value : ℕ) (found : Bool) → i < length configs → config ≡ get_or configs i config → value ≡ key_in key config → found ≡ list_any (λ other. key_in key other == value) (drop (i + 1) configs) → any_twice key (drop i configs) ≡ any_twice key configs → found ≡ false → any_twice key (drop (i + 1) configs) ≡ any_twice key configs
twice_later key configs i config value found lt is value_is found_is so_far here_is =
    let here : list_any (λ other. key_in key other == key_in key config) (drop (i + 1) configs) ≡ false = ap (λ (v : ℕ). list_any (λ other. key_in key other == v) (drop (i + 1) configs)) (sym value_is) ∙ sym found_is ∙ here_is in
    sym (ap (λ b. b || any_twice key (drop (i + 1) configs)) here) ∙ sym (twice_at key configs i config lt is) ∙ so_far

pub twice_nowhere : (key : DeviceKey) (configs : List Config) (i : ℕ) → length configs ≤ i → any_twice key (drop i configs) ≡ any_twice key configs → false ≡ any_twice key configs
unfolding any_twice
twice_nowhere key configs i le so_far = sym (at_drop_all (any_twice key) configs i le) ∙ so_far

-- FAULTS

fault_at : (configs : List Config) (i : ℕ) (config : Config) → i < length configs → config ≡ get_or configs i config → first_fault (drop i configs) ≡ fault_or (config_fault config) (first_fault (drop (i + 1) configs))
unfolding first_fault
fault_at configs i config lt is =
    at_drop_more first_fault configs i config lt ∙ ap (λ (c : Config). fault_or (config_fault c) (first_fault (drop (i + 1) configs))) (sym is)

pub fault_here : (configs : List Config) (i : ℕ) (config : Config) (fault : ProfileFault) → i < length configs → config ≡ get_or configs i config → Some fault ≡ config_fault config → first_fault (drop i configs) ≡ first_fault configs → Some fault ≡ first_fault configs
fault_here configs i config fault lt is found so_far =
    ap (λ (o : Option ProfileFault). fault_or o (first_fault (drop (i + 1) configs))) found ∙ sym (fault_at configs i config lt is) ∙ so_far

pub fault_later : (configs : List Config) (i : ℕ) (config : Config) → i < length configs → config ≡ get_or configs i config → None ≡ config_fault config → first_fault (drop i configs) ≡ first_fault configs → first_fault (drop (i + 1) configs) ≡ first_fault configs
fault_later configs i config lt is found so_far =
    ap (λ (o : Option ProfileFault). fault_or o (first_fault (drop (i + 1) configs))) found ∙ sym (fault_at configs i config lt is) ∙ so_far

pub fault_nowhere : (configs : List Config) (i : ℕ) → length configs ≤ i → first_fault (drop i configs) ≡ first_fault configs → None ≡ first_fault configs
unfolding first_fault
fault_nowhere configs i le so_far = sym (at_drop_all first_fault configs i le) ∙ so_far

-- the first has no fault where none has
none_or : (o later : Option ProfileFault) → fault_or o later ≡ None → (o ≡ None) × (later ≡ None)
none_or None later is = (refl, is)
none_or (Some fault) later is = absurd (let e = is in cc)

pub first_good : (left rest : List Config) (config : Config) → left ≡ config ∷ rest → first_fault left ≡ None → (config_fault config ≡ None) × (first_fault rest ≡ None)
unfolding first_fault
first_good left rest config is none = none_or (config_fault config) (first_fault rest) (sym (ap first_fault is) ∙ none)

pub made_more : {D : Type 0} (table : D → DeviceTable) (made new : List D) (all : List DeviceTable) (left rest : List Config) (config : Config) (device : D) → left ≡ config ∷ rest → table device ≡ opening_table config → map table made ++ map opening_table left ≡ all → new ≡ made ++ device ∷ [] → map table new ++ map opening_table rest ≡ all
made_more table made new all left rest config device is fresh so_far pushed =
    ap (λ l. l ++ map opening_table rest) (ap (map table) pushed ∙ map-append table made (device ∷ []))
    ∙ append_assoc (map table made) (table device ∷ []) (map opening_table rest)
    ∙ ap (λ (t : DeviceTable). map table made ++ t ∷ map opening_table rest) fresh
    ∙ sym (ap (λ (l : List Config). map table made ++ map opening_table l) is)
    ∙ so_far
