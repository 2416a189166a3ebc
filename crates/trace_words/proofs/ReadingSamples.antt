-- Names of a text, worked by hand.
use Rattle.std.specs.Prelude.{ℕ, codes}
use Rattle.std.specs.Str.{chars, is_utf8}
use lib.Utf8.{encode}
use Rattle.std.proofs.Common.{◌≡◌, List, [], ◌∷◌, refl}
use Rattle.trace_words.specs.Words.{number_of}
use Rattle.trace_words.specs.PointNames.Labels.{lines_in}
use Rattle.trace_words.specs.PointNames.Reading.{bad_lines, names_behind}
use Rattle.trace_words.specs.declared.point_names.line.Named.TheVariants as named
use Rattle.trace_words.specs.declared.point_names.names.NameLineFault.TheVariants as fault

-- eight lines, of which the first and the third are no name lines
abbrev text : List ℕ
text = codes "# a press\n# name 150 Valves\noutput 150 4 zero zero\n# name slot 0 Press\n# name 150 Again\n# name valves 1\n# name 100 \t\n# bit 150 0 4 Stop\n"

the_first_name_counts : names_behind [] (lines_in text) ≡ (named.Point 150, codes "Valves") ∷ (named.Slot 0, codes "Press") ∷ (named.Bit 150 0 4, codes "Stop") ∷ []
unfolding number_of is_utf8 chars encode
the_first_name_counts = refl

each_bad_line_has_its_number : bad_lines 1 [] (lines_in text) ≡ record { line = 5; fault = fault.Repeated } ∷ record { line = 6; fault = fault.Words } ∷ record { line = 7; fault = fault.Text } ∷ []
unfolding number_of is_utf8 chars encode
each_bad_line_has_its_number = refl
