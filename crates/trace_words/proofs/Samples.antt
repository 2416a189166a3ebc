-- Name lines, worked by hand.
use Rattle.std.specs.Prelude.{codes}
use Rattle.std.proofs.Common.{◌≡◌, Some, None, true, false, refl}
use Rattle.trace_words.specs.declared.point_names.line.Named.TheVariants as named
use Rattle.trace_words.specs.declared.point_names.line.NameKind.TheVariants as kind
use Rattle.trace_words.specs.Words.{number_of}
use Rattle.trace_words.specs.PointNames.Lines.{name_kind, named_by}
use Rattle.trace_words.specs.PointNames.Texts.{is_plain}

a_name_line_has_words : name_kind (codes "# name 150 Valves") ≡ Some (kind.Whole, codes "150 Valves")
a_name_line_has_words = refl

a_line_of_bits_too : name_kind (codes "# bit 150 0 7 Open") ≡ Some (kind.Bit, codes "150 0 7 Open")
a_line_of_bits_too = refl

another_comment_is_none : name_kind (codes "# names of points") ≡ None
another_comment_is_none = refl

a_line_of_the_profile_is_none : name_kind (codes "output 150 4 zero zero") ≡ None
a_line_of_the_profile_is_none = refl

a_point_is_named : named_by kind.Whole (codes "150 Valves of tank 2") ≡ Some (named.Point 150, codes "Valves of tank 2")
unfolding number_of
a_point_is_named = refl

a_slot_is_named : named_by kind.Whole (codes "slot 3 Press") ≡ Some (named.Slot 3, codes "Press")
unfolding number_of
a_slot_is_named = refl

a_bit_is_named : named_by kind.Bit (codes "150 2 7 Emergency stop") ≡ Some (named.Bit 150 2 7, codes "Emergency stop")
unfolding number_of
a_bit_is_named = refl

there_is_no_bit_8 : named_by kind.Bit (codes "150 2 8 Open") ≡ None
unfolding number_of
there_is_no_bit_8 = refl

a_word_is_no_number : named_by kind.Whole (codes "valves 150") ≡ None
unfolding number_of
a_word_is_no_number = refl

no_number_begins_with_zero : named_by kind.Whole (codes "0150 Valves") ≡ None
unfolding number_of
no_number_begins_with_zero = refl

markup_is_plain : is_plain (codes "<b>Valves</b>") ≡ true
markup_is_plain = refl

nothing_is_no_name : is_plain (codes "") ≡ false
nothing_is_no_name = refl

a_tab_is_a_control_character : is_plain (codes "a\tb") ≡ false
a_tab_is_a_control_character = refl

thirty_three_characters_are_too_many : is_plain (codes "123456789012345678901234567890123") ≡ false
thirty_three_characters_are_too_many = refl
