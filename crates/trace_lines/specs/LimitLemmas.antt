-- What is shown of the rows of limits: a line that may follow is one line more, the lines of limits make these limits, the
-- reader of a line reads the words of its shape, the ranges of the numbers are those of a valid profile, and a number is the
-- word of its line that its range names.
use Rattle.std.proofs.Common.{◌≡◌, ℕ, ◌-◌, ◌^◌, ◌&&◌, ◌||◌, not, Bool, true, false, cond, List, [], ◌∷◌, ◌++◌, Option, Some, None, refl, sym, ap, ◌∙◌, subst}
use Rattle.std.specs.Prelude.{drop, take, get_or, is_some, is_none, option_map, option_to_list}
use Rattle.std.specs.List.{find, list_all, list_any}
use Rattle.std.proofs.lemmas.Bool.{or_parts}
use Rattle.std.proofs.lemmas.List.{append-nil}
use Rattle.std.proofs.lemmas.List.Concat.{flat_map-append}
use Rattle.adapter_table.specs.declared.maker_limits.MakerLimits.{MakerLimits}
use Rattle.adapter_table.specs.declared.maker_limits.NodeLimits.{NodeLimits}
use Rattle.adapter_table.specs.declared.maker_limits.Places.{Places}
use Rattle.adapter_table.specs.Profiles.{no_limits, is_from, are_few_places, are_node_limits, are_limits}
use Rattle.trace_lines.specs.declared.limit_lines.LimitName.{LimitName}
use Rattle.trace_lines.specs.declared.limit_lines.LimitName.TheVariants as name
use Rattle.trace_lines.specs.declared.limit_lines.LimitLine.{LimitLine}
use Rattle.trace_lines.specs.declared.limit_lines.LimitLine.TheVariants as limit
use Rattle.trace_lines.specs.declared.limit_lines.LimitNumber.TheVariants as number
use Rattle.trace_lines.specs.declared.limit_lines.StatedNumber.{StatedNumber}
use Rattle.trace_lines.specs.declared.limit_lines.TheConstants.{LIMITS}
use Rattle.trace_lines.specs.declared.shapes.TheConstants.{NUMBER, PLACES, CLASS3_PLACES, NODE_CONNECTIONS, NODE_OPENINGS, CLOSERS}
use Rattle.trace_lines.specs.Limits.{stated_class3_connections, class3_connections_reader, stated_openings, openings_reader, limit_shape, limit_reader, limit_words, place, stated_line, is_stated, with_line, with_limit, lines_of, limit_lines, stated, numbers_of, number_range, number_word, is_out_of_range, bad_number, is_good}
use Rattle.trace_lines.specs.ShapeLemmas.{IsOfShape, of_shape, ends_at, some_mapped, end_only}
use Rattle.trace_lines.specs.Shapes.{behind_kinds, may_go_on}

some_is : {A : Type 0} (one other : A) → Some one ≡ Some other → one ≡ other
some_is one other is = cc

-- ONE LINE MORE

no_line : (line : Option LimitLine) (any : Bool) (more : List LimitLine) → (is_some line || any) ≡ false → (any ≡ false → more ≡ []) → option_to_list line ++ more ≡ []
no_line None any more none rest = rest none
no_line (Some line) any more none rest = absurd (cc)

-- where none of these limits is stated, there are no lines
none_stated : (limits : MakerLimits) (rows : List LimitName) → list_any (is_stated limits) rows ≡ false → lines_of limits rows ≡ []
none_stated limits [] none = refl
none_stated limits (row ∷ rows) none = no_line (stated_line limits row) (list_any (is_stated limits) rows) (lines_of limits rows) none (none_stated limits rows)

abbrev row_lines : MakerLimits → LimitName → List LimitLine
row_lines limits row = option_to_list (stated_line limits row)

-- the same limits but for one row, and none is stated of it and of those behind it
put_at : (limits more : MakerLimits) (front behind : List LimitName) (own : LimitName) (line : LimitLine) → lines_of more front ≡ lines_of limits front → stated_line more own ≡ Some line → lines_of more behind ≡ lines_of limits behind → list_any (is_stated limits) (own ∷ behind) ≡ false → lines_of more (front ++ own ∷ behind) ≡ lines_of limits (front ++ own ∷ behind) ++ line ∷ []
put_at limits more front behind own line before here after none =
    let no_more : lines_of limits behind ≡ [] = none_stated limits behind (or_parts (is_stated limits own) (list_any (is_stated limits) behind) none).1 in
    let last : lines_of more (own ∷ behind) ≡ line ∷ [] = ap (λ t. option_to_list t ++ lines_of more behind) here ∙ ap (λ t. line ∷ t) (after ∙ no_more) in
    let so_far : lines_of limits (front ++ own ∷ behind) ≡ lines_of limits front =
    flat_map-append (row_lines limits) front (own ∷ behind) ∙ ap (λ t. lines_of limits front ++ t) (none_stated limits (own ∷ behind) none) ∙ append-nil (lines_of limits front) in
    flat_map-append (row_lines more) front (own ∷ behind) ∙ ap (λ t. t ++ lines_of more (own ∷ behind)) before ∙ ap (λ t. lines_of limits front ++ t) last
    ∙ ap (λ t. t ++ line ∷ []) (sym so_far)

limit_put : (limits : MakerLimits) (line : LimitLine) → list_any (is_stated limits) (drop (place line) LIMITS) ≡ false → limit_lines (with_line limits line) ≡ limit_lines limits ++ line ∷ []
limit_put limits (limit.LeastRpi us) none = put_at limits (with_line limits (limit.LeastRpi us)) [] (drop 1 LIMITS) name.LeastRpi (limit.LeastRpi us) refl refl refl none
limit_put limits (limit.Places places) none = put_at limits (with_line limits (limit.Places places)) (take 1 LIMITS) (drop 2 LIMITS) name.Places (limit.Places places) refl refl refl none
limit_put limits (limit.NodeConnections node) none = put_at limits (with_line limits (limit.NodeConnections node)) (take 2 LIMITS) (drop 3 LIMITS) name.NodeConnections (limit.NodeConnections node) refl refl refl none
limit_put limits limit.OwnClosers none = put_at limits (with_line limits limit.OwnClosers) (take 3 LIMITS) (drop 4 LIMITS) name.OwnClosers limit.OwnClosers refl refl refl none
limit_put limits (limit.Newer within) none = put_at limits (with_line limits (limit.Newer within)) (take 4 LIMITS) [] name.Newer (limit.Newer within) refl refl refl none

of_test : (test : Bool) (value got : MakerLimits) → cond test None (Some value) ≡ Some got → (test ≡ false) × (value ≡ got)
of_test false value got is = (refl, some_is value got is)
of_test true value got is = absurd (cc)

-- the limits with one line more have that line more
pub limit_added : (limits : MakerLimits) (line : LimitLine) (more : MakerLimits) → with_limit limits line ≡ Some more → limit_lines more ≡ limit_lines limits ++ line ∷ []
limit_added limits line more is =
    let pair = of_test (list_any (is_stated limits) (drop (place line) LIMITS)) (with_line limits line) more is in
    ap limit_lines (sym pair.1) ∙ limit_put limits line pair.0

-- THE LINES MAKE THE LIMITS

-- these lines lead from limits to limits, one after the other
abbrev pub Steps : MakerLimits → List LimitLine → MakerLimits → Type 0
Steps limits [] end = limits ≡ end
Steps limits (line ∷ lines) end = (next : MakerLimits) × ((with_limit limits line ≡ Some next) × Steps next lines end)

abbrev limits_of : Option ℕ → Option Places → Option NodeLimits → Bool → Option ℕ → MakerLimits
limits_of a b c d e = record { least_rpi = a; places = b; node_connections = c; own_closers = d; newer = e }

module _ (a : Option ℕ) (b : Option Places) (c : Option NodeLimits) (d : Bool) (e : Option ℕ) where
  -- the lines of these rows lead to the limits
  abbrev LeadFrom : MakerLimits → List LimitName → Type 0
  LeadFrom start rows = Steps start (lines_of (limits_of a b c d e) rows) (limits_of a b c d e)

newer_steps : (a : Option ℕ) (b : Option Places) (c : Option NodeLimits) (d : Bool) (e : Option ℕ) → LeadFrom a b c d e (limits_of a b c d None) (drop 4 LIMITS)
newer_steps a b c d None = refl
newer_steps a b c d (Some within) = (_, (refl, refl))

closers_steps : (a : Option ℕ) (b : Option Places) (c : Option NodeLimits) (d : Bool) (e : Option ℕ) → LeadFrom a b c d e (limits_of a b c false None) (drop 3 LIMITS)
closers_steps a b c false e = newer_steps a b c false e
closers_steps a b c true e = (_, (refl, newer_steps a b c true e))

node_steps : (a : Option ℕ) (b : Option Places) (c : Option NodeLimits) (d : Bool) (e : Option ℕ) → LeadFrom a b c d e (limits_of a b None false None) (drop 2 LIMITS)
node_steps a b None d e = closers_steps a b None d e
node_steps a b (Some most) d e = (_, (refl, closers_steps a b (Some most) d e))

places_steps : (a : Option ℕ) (b : Option Places) (c : Option NodeLimits) (d : Bool) (e : Option ℕ) → LeadFrom a b c d e (limits_of a None None false None) (drop 1 LIMITS)
places_steps a None c d e = node_steps a None c d e
places_steps a (Some places) c d e = (_, (refl, node_steps a (Some places) c d e))

least_steps : (a : Option ℕ) (b : Option Places) (c : Option NodeLimits) (d : Bool) (e : Option ℕ) → LeadFrom a b c d e no_limits LIMITS
least_steps None b c d e = places_steps None b c d e
least_steps (Some us) b c d e = (_, (refl, places_steps (Some us) b c d e))

-- the lines of limits lead to them from none
pub limit_steps : (limits : MakerLimits) → Steps no_limits (limit_lines limits) limits
limit_steps limits = least_steps limits.least_rpi limits.places limits.node_connections limits.own_closers limits.newer

-- SHAPES

class3_connections_stated : IsOfShape (Option ℕ) stated_class3_connections (Some (CLASS3_PLACES, []))
class3_connections_stated = of_shape (Option ℕ) [] CLASS3_PLACES _ (λ _. ends_at (Option ℕ) _)

class3_connections_go_on : (words : List (List ℕ)) → is_some (class3_connections_reader words) ≡ may_go_on CLASS3_PLACES (Some words)
class3_connections_go_on [] = refl
class3_connections_go_on (word ∷ words) = class3_connections_stated (word ∷ words) ∙ end_only (behind_kinds CLASS3_PLACES (word ∷ words))

openings_stated : IsOfShape (Option ℕ) stated_openings (Some (NODE_OPENINGS, []))
openings_stated = of_shape (Option ℕ) [] NODE_OPENINGS _ (λ _ _. ends_at (Option ℕ) _)

openings_go_on : (words : List (List ℕ)) → is_some (openings_reader words) ≡ may_go_on NODE_OPENINGS (Some words)
openings_go_on [] = refl
openings_go_on (word ∷ words) = openings_stated (word ∷ words) ∙ end_only (behind_kinds NODE_OPENINGS (word ∷ words))

-- the reader of a line reads the words of its shape, and no others
pub row_tied : (row : LimitName) → IsOfShape LimitLine (limit_reader row) (Some (limit_shape row))
row_tied name.LeastRpi = of_shape LimitLine [] NUMBER _ (λ _. ends_at LimitLine _)
row_tied name.Places = of_shape LimitLine CLASS3_PLACES PLACES _ (λ _ _ _. λ words. some_mapped (Option ℕ) LimitLine _ (class3_connections_reader words) ∙ class3_connections_go_on words)
row_tied name.NodeConnections = of_shape LimitLine NODE_OPENINGS NODE_CONNECTIONS _ (λ _. λ words. some_mapped (Option ℕ) LimitLine _ (openings_reader words) ∙ openings_go_on words)
row_tied name.OwnClosers = of_shape LimitLine [] CLOSERS _ (λ _. ends_at LimitLine _)
row_tied name.Newer = of_shape LimitLine [] NUMBER _ (λ _. ends_at LimitLine _)

-- RANGES

-- a number, and those behind it
and_others : (fits : Bool) (said : StatedNumber) (others : List StatedNumber) (good : Bool) → is_none (find is_out_of_range others) ≡ good → is_none (cond (not fits) (Some said) (find is_out_of_range others)) ≡ (fits && good)
and_others true said others good is = is
and_others false said others good is = refl

-- a number alone
alone : (fits : Bool) (said : StatedNumber) → is_none (cond (not fits) (Some said) None) ≡ fits
alone true said = refl
alone false said = refl

least_good : (least : Option ℕ) → is_good (option_map limit.LeastRpi least) ≡ is_from 1 10000000 least
least_good None = refl
least_good (Some us) = alone _ (stated number.LeastRpi us)

class3_good : (most : Option ℕ) → is_none (find is_out_of_range (option_to_list (option_map (stated number.Class3Places) most))) ≡ is_from 0 64 most
class3_good None = refl
class3_good (Some most) = alone _ (stated number.Class3Places most)

places_good : (places : Option Places) → is_good (option_map limit.Places places) ≡ are_few_places places
places_good None = refl
places_good (Some places) = and_others _ _ (option_to_list (option_map (stated number.Class3Places) places.class3_connections)) _ (class3_good places.class3_connections)

openings_good : (most : Option ℕ) → is_none (find is_out_of_range (option_to_list (option_map (stated number.NodeOpenings) most))) ≡ is_from 1 65535 most
openings_good None = refl
openings_good (Some most) = alone _ (stated number.NodeOpenings most)

nodes_good : (node : Option NodeLimits) → is_good (option_map limit.NodeConnections node) ≡ are_node_limits node
nodes_good None = refl
nodes_good (Some node) = and_others _ _ (option_to_list (option_map (stated number.NodeOpenings) node.openings)) _ (openings_good node.openings)

closers_good : (own : Bool) → is_good (cond own (Some limit.OwnClosers) None) ≡ true
closers_good true = refl
closers_good false = refl

pub newer_good : (newer : Option ℕ) → is_good (option_map limit.Newer newer) ≡ is_from 2 (2 ^ 31) newer
newer_good None = refl
newer_good (Some within) = alone _ (stated number.Newer within)

joined : (a b c d e a' b' c' e' : Bool) → a ≡ a' → b ≡ b' → c ≡ c' → d ≡ true → e ≡ e' → (a && (b && (c && (d && (e && true))))) ≡ (a' && (b' && (c' && e')))
joined a b c true true a' b' c' e' p q r s t = cc
joined a b c true false a' b' c' e' p q r s t = cc
joined a b c false e a' b' c' e' p q r s t = absurd (cc)

pub limits_good : (limits : MakerLimits) → list_all (λ row. is_good (stated_line limits row)) LIMITS ≡ are_limits limits
limits_good limits =
    joined (is_good (stated_line limits name.LeastRpi)) (is_good (stated_line limits name.Places)) (is_good (stated_line limits name.NodeConnections)) (is_good (stated_line limits name.OwnClosers)) (is_good (stated_line limits name.Newer)) _ _ _ _
    (least_good limits.least_rpi) (places_good limits.places) (nodes_good limits.node_connections) (closers_good limits.own_closers) (newer_good limits.newer)

-- WORDS

-- the word of a number has its value
abbrev pub IsNamed : LimitLine → StatedNumber → Type 0
IsNamed line said = get_or (limit_words line) ((number_range said.number).word - 1) [] ≡ number_word said.number said.value

abbrev AreNamed : LimitLine → List StatedNumber → Type 0
AreNamed line [] = Unit {0}
AreNamed line (said ∷ others) = IsNamed line said × AreNamed line others

class3_named : (owners readers listeners : ℕ) (most : Option ℕ) → AreNamed (limit.Places (record { owners = owners; readers = readers; listeners = listeners; class3_connections = most })) (option_to_list (option_map (stated number.Class3Places) most))
class3_named owners readers listeners None = tt
class3_named owners readers listeners (Some most) = (refl, tt)

openings_named : (connections : ℕ) (most : Option ℕ) → AreNamed (limit.NodeConnections (record { connections = connections; openings = most })) (option_to_list (option_map (stated number.NodeOpenings) most))
openings_named connections None = tt
openings_named connections (Some most) = (refl, tt)

numbers_named : (line : LimitLine) → AreNamed line (numbers_of line)
numbers_named (limit.LeastRpi us) = (refl, tt)
numbers_named (limit.Places places) = (refl, class3_named places.owners places.readers places.listeners places.class3_connections)
numbers_named (limit.NodeConnections node) = (refl, openings_named node.connections node.openings)
numbers_named limit.OwnClosers = tt
numbers_named (limit.Newer within) = (refl, tt)

found_named : (line : LimitLine) (test : Bool) (one said : StatedNumber) (others : Option StatedNumber) → IsNamed line one → (others ≡ Some said → IsNamed line said) → cond test (Some one) others ≡ Some said → IsNamed line said
found_named line true one said others named rest is = subst (IsNamed line) (some_is one said is) named
found_named line false one said others named rest is = rest is

among : (line : LimitLine) (numbers : List StatedNumber) (said : StatedNumber) → AreNamed line numbers → find is_out_of_range numbers ≡ Some said → IsNamed line said
among line [] said named is = absurd (cc)
among line (one ∷ others) said named is = found_named line (is_out_of_range one) one said (find is_out_of_range others) named.0 (among line others said named.1) is

-- the bad number of a line is a word of it
pub bad_named : (line : LimitLine) (said : StatedNumber) → bad_number line ≡ Some said → IsNamed line said
bad_named line said is = among line (numbers_of line) said (numbers_named line) is
