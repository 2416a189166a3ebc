-- The lines of limits as they are read, the order in which they may be, and how they are written.
use Rattle.std.proofs.Common.{◌≡◌, true, List, [], ◌∷◌, ℕ, map, codes, refl, Option, Some, None}
use Rattle.std.specs.Prelude.{option_map, option_and_then}
use Rattle.std.specs.Fmt.{digits}
use Rattle.adapter_table.specs.declared.maker_limits.MakerLimits.{MakerLimits}
use Rattle.adapter_table.specs.Profiles.{no_limits}
use Rattle.trace_words.specs.Words.{words_of, number_of}
use Rattle.trace_lines.specs.declared.limit_lines.LimitName.{LimitName}
use Rattle.trace_lines.specs.declared.limit_lines.LimitName.TheVariants as name
use Rattle.trace_lines.specs.declared.limit_lines.LimitLine.{LimitLine}
use Rattle.trace_lines.specs.declared.limit_lines.LimitLine.TheVariants.{LeastRpi, Places, NodeConnections, OwnClosers, Newer}
use Rattle.trace_lines.specs.Kinds.{closers_of, openings_of}
use Rattle.trace_lines.specs.Limits.{limit_reader, with_limit, limit_lines, limits_text}

abbrev limited : LimitName → List ℕ → Option LimitLine
limited row line = option_map (λ got. got.0) (limit_reader row (words_of line))

-- ---- lines

abbrev four : Option ℕ → LimitLine
four openings = NodeConnections (record { connections = 4; openings = openings })

intervals_are_read : map (limited name.LeastRpi) (codes "1000" ∷ codes "4294967295" ∷ codes "0" ∷ []) ≡ Some (LeastRpi 1000) ∷ Some (LeastRpi 4294967295) ∷ Some (LeastRpi 0) ∷ []
unfolding number_of
intervals_are_read = refl

-- nothing, an interval past 32 bits, a unit, and a word too many
other_intervals_are_bad : map (limited name.LeastRpi) (codes "" ∷ codes "4294967296" ∷ codes "1000us" ∷ codes "1000 0" ∷ []) ≡ None ∷ None ∷ None ∷ None ∷ []
unfolding number_of
other_intervals_are_bad = refl

places_are_read : map (limited name.Places) (codes "2 30 0" ∷ codes "2 30 0 8" ∷ codes "2 30 0 0" ∷ [])
    ≡ Some (Places (record { owners = 2; readers = 30; listeners = 0; class3_connections = None }))
    ∷ Some (Places (record { owners = 2; readers = 30; listeners = 0; class3_connections = Some 8 }))
    ∷ Some (Places (record { owners = 2; readers = 30; listeners = 0; class3_connections = Some 0 }))
    ∷ []
unfolding number_of
places_are_read = refl

-- two numbers, five, one past 8 bits, and a dash
other_places_are_bad : map (limited name.Places) (codes "2 30" ∷ codes "2 30 0 8 0" ∷ codes "2 30 0 256" ∷ codes "2 30 -" ∷ []) ≡ None ∷ None ∷ None ∷ None ∷ []
unfolding number_of
other_places_are_bad = refl

-- connections of one node: four, 20 openings in a second beside them, and one past 8 bits
nodes_are_read : map (limited name.NodeConnections) (codes "4" ∷ codes "4 openings 20" ∷ codes "256" ∷ []) ≡ Some (four None) ∷ Some (four (Some 20)) ∷ None ∷ []
unfolding number_of openings_of
nodes_are_read = refl

-- the word alone, another word, a number alone, one past 16 bits, and a word too many
other_openings_are_bad : map (limited name.NodeConnections) (codes "4 openings" ∷ codes "4 opens 20" ∷ codes "4 20" ∷ codes "4 openings 65536" ∷ codes "4 openings 20 1" ∷ []) ≡ None ∷ None ∷ None ∷ None ∷ None ∷ []
unfolding number_of openings_of
other_openings_are_bad = refl

-- own closers, any closers, no word, and a word too many
closers_are_read : map (limited name.OwnClosers) (codes "own" ∷ codes "any" ∷ codes "" ∷ codes "own 1" ∷ []) ≡ Some OwnClosers ∷ None ∷ None ∷ None ∷ []
unfolding closers_of
closers_are_read = refl

newer_is_read : map (limited name.Newer) (codes "2147483648" ∷ codes "4294967296" ∷ codes "07" ∷ []) ≡ Some (Newer 2147483648) ∷ None ∷ None ∷ []
unfolding number_of
newer_is_read = refl

-- ---- their order

abbrev all : MakerLimits
all = record no_limits { least_rpi = Some 1000; places = Some (record { owners = 2; readers = 30; listeners = 0; class3_connections = Some 8 }); node_connections = Some (record { connections = 4; openings = Some 20 }); own_closers = true; newer = Some 1000 }

abbrev with_all : Option MakerLimits → List LimitLine → Option MakerLimits
with_all limits [] = limits
with_all limits (line ∷ lines) = with_all (option_and_then (λ so_far. with_limit so_far line) limits) lines

abbrev places : LimitLine
places = Places (record { owners = 2; readers = 30; listeners = 0; class3_connections = Some 8 })

limits_are_made_of_lines : with_all (Some no_limits) (LeastRpi 1000 ∷ places ∷ four (Some 20) ∷ OwnClosers ∷ Newer 1000 ∷ []) ≡ Some all
limits_are_made_of_lines = refl

one_alone_is_enough : with_all (Some no_limits) (OwnClosers ∷ []) ≡ Some (record no_limits { own_closers = true })
one_alone_is_enough = refl

-- each line a second time, and each behind the next one
others_are_misplaced :
    map (with_all (Some no_limits)) (
    (LeastRpi 1000 ∷ LeastRpi 1000 ∷ [])
    ∷ (places ∷ places ∷ [])
    ∷ (four None ∷ four (Some 20) ∷ [])
    ∷ (OwnClosers ∷ OwnClosers ∷ [])
    ∷ (Newer 2 ∷ Newer 2 ∷ [])
    ∷ (places ∷ LeastRpi 1000 ∷ [])
    ∷ (four None ∷ places ∷ [])
    ∷ (OwnClosers ∷ four None ∷ [])
    ∷ (Newer 2 ∷ OwnClosers ∷ [])
    ∷ (Newer 2 ∷ LeastRpi 1000 ∷ [])
    ∷ []
    )
    ≡ None ∷ None ∷ None ∷ None ∷ None ∷ None ∷ None ∷ None ∷ None ∷ None ∷ []
others_are_misplaced = refl

all_have_lines : limit_lines all ≡ LeastRpi 1000 ∷ places ∷ four (Some 20) ∷ OwnClosers ∷ Newer 1000 ∷ []
all_have_lines = refl

-- ---- as they are written

limits_are_written :
    map limits_text (all ∷ record no_limits { places = Some (record { owners = 1; readers = 2; listeners = 3; class3_connections = None }); node_connections = Some (record { connections = 4; openings = None }); newer = Some 2 } ∷ no_limits ∷ [])
    ≡ codes "least-rpi 1000\nplaces 2 30 0 8\nnode-connections 4 openings 20\nclosers own\nnewer 1000\n"
    ∷ codes "places 1 2 3\nnode-connections 4\nnewer 2\n"
    ∷ []
    ∷ []
unfolding digits
limits_are_written = refl
