-- The options of words, one option after another. The words are seen as their texts.
use Rattle.std.proofs.lemmas.List.{length-map}
use Rattle.std.proofs.Common.{map, ◌+◌, arith, ◌≡◌, ℕ, List, [], ◌∷◌, length, Some, None, Result, Ok, Err, sym, ap, ◌∙◌}
use Rattle.command_lines.specs.StationOptions.{and_then, chosen, options_after, option_of, with_flag, with_value}
use Rattle.command_lines.specs.declared.station_options.Options.{Options}
use Rattle.command_lines.specs.declared.station_options.Setting.{Setting}
use Rattle.command_lines.specs.declared.station_options.Flag.{Flag}
use Rattle.command_lines.specs.declared.station_options.OptionName.TheVariants as name
use Rattle.command_lines.specs.declared.station_options.StationMisuse.{StationMisuse}
use Rattle.command_lines.specs.declared.station_options.StationMisuse.TheVariants as misuse

abbrev after_value : Options → List ℕ → List (List ℕ) → Setting → Result Options StationMisuse
after_value options value rest named = and_then (λ next. options_after next rest) (with_value options named value (length (value ∷ rest)))

-- a word that names no option
unknown : (options : Options) (first : List ℕ) (rest : List (List ℕ)) → option_of first ≡ None → options_after options (first ∷ rest) ≡ Err (misuse.NoSuchOption (length (first ∷ rest)))
unknown options first [] is = ap (λ o. chosen (Err (misuse.NoSuchOption 1)) (λ given. Ok (with_flag options given)) (λ _. Err (misuse.NoValue 1)) o) is
unknown options first (value ∷ rest) is = ap (λ o. chosen (Err (misuse.NoSuchOption (length (first ∷ value ∷ rest)))) (λ given. options_after (with_flag options given) (value ∷ rest)) (after_value options value rest) o) is

-- an option without a value
flag : (options : Options) (given : Flag) (first : List ℕ) (rest : List (List ℕ)) → option_of first ≡ Some (name.Alone given) → options_after options (first ∷ rest) ≡ options_after (with_flag options given) rest
flag options given first [] is = ap (λ o. chosen (Err (misuse.NoSuchOption 1)) (λ given. Ok (with_flag options given)) (λ _. Err (misuse.NoValue 1)) o) is
flag options given first (value ∷ rest) is = ap (λ o. chosen (Err (misuse.NoSuchOption (length (first ∷ value ∷ rest)))) (λ given. options_after (with_flag options given) (value ∷ rest)) (after_value options value rest) o) is

-- an option with its value
valued : (options : Options) (first value : List ℕ) (rest : List (List ℕ)) (named : Setting) → option_of first ≡ Some (name.Valued named) → options_after options (first ∷ value ∷ rest) ≡ after_value options value rest named
valued options first value rest named is = ap (λ o. chosen (Err (misuse.NoSuchOption (length (first ∷ value ∷ rest)))) (λ given. options_after (with_flag options given) (value ∷ rest)) (after_value options value rest) o) is

pub unknown_left : {X : Type 0} (text : X → List ℕ) (options : Options) (first : List ℕ) (after : List X) (left : ℕ) → left ≡ length after + 1 → None ≡ option_of first → options_after options (first ∷ map text after) ≡ Err (misuse.NoSuchOption left)
unknown_left text options first after left count is =
    let same : length (map text after) ≡ length after = length-map after text in
    let long : length (first ∷ map text after) ≡ left = omega (arith, count, same) in
    unknown options first (map text after) (sym is) ∙ ap (λ n. Err (misuse.NoSuchOption n)) long

pub flagged : {X : Type 0} (text : X → List ℕ) (options next : Options) (given : Flag) (first : List ℕ) (after : List X) → Some (name.Alone given) ≡ option_of first → next ≡ with_flag options given → options_after options (first ∷ map text after) ≡ options_after next (map text after)
flagged text options next given first after is made = flag options given first (map text after) (sym is) ∙ ap (λ o. options_after o (map text after)) (sym made)

pub lone_left : {X : Type 0} (text : X → List ℕ) (options : Options) (first : List ℕ) (named : Setting) (after : List X) (left : ℕ) → length after ≡ 0 → left ≡ length after + 1 → Some (name.Valued named) ≡ option_of first → options_after options (first ∷ map text after) ≡ Err (misuse.NoValue left)
lone_left text options first named [] left none count is =
    ap (λ o. chosen (Err (misuse.NoSuchOption 1)) (λ given. Ok (with_flag options given)) (λ _. Err (misuse.NoValue 1)) o) (sym is)
    ∙ ap (λ n. Err (misuse.NoValue n)) (sym count)
lone_left text options first named (value ∷ rest) left none count is = absurd (omega (arith, none))

here : {X : Type 0} (text : X → List ℕ) (options : Options) (named : Setting) (after rest : List X) (value : X) (result : Result Options StationMisuse) → after ≡ value ∷ rest → result ≡ with_value options named (text value) (length after) → result ≡ with_value options named (text value) (length (text value ∷ map text rest))
here text options named after rest value result split given =
    let same : length (map text rest) ≡ length rest = length-map rest text in
    let all : length after ≡ length (value ∷ rest) = ap length split in
    let long : length after ≡ length (text value ∷ map text rest) = omega (arith, same, all) in
    given ∙ ap (λ n. with_value options named (text value) n) long

pub valued_on : {X : Type 0} (text : X → List ℕ) (options next : Options) (first : List ℕ) (named : Setting) (after rest : List X) (value : X) → after ≡ value ∷ rest → Some (name.Valued named) ≡ option_of first → Ok next ≡ with_value options named (text value) (length after) → options_after options (first ∷ map text after) ≡ options_after next (map text rest)
valued_on text options next first named after rest value split is given =
    ap (λ ws. options_after options (first ∷ map text ws)) split
    ∙ valued options first (text value) (map text rest) named (sym is)
    ∙ ap (λ r. and_then (λ n. options_after n (map text rest)) r) (sym (here text options named after rest value (Ok next) split given))

pub valued_not : {X : Type 0} (text : X → List ℕ) (options : Options) (fault : StationMisuse) (first : List ℕ) (named : Setting) (after rest : List X) (value : X) → after ≡ value ∷ rest → Some (name.Valued named) ≡ option_of first → Err fault ≡ with_value options named (text value) (length after) → options_after options (first ∷ map text after) ≡ Err fault
valued_not text options fault first named after rest value split is given =
    ap (λ ws. options_after options (first ∷ map text ws)) split
    ∙ valued options first (text value) (map text rest) named (sym is)
    ∙ ap (λ r. and_then (λ n. options_after n (map text rest)) r) (sym (here text options named after rest value (Err fault) split given))
