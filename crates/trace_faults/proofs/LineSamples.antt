-- The numbers of a profile's lines, worked by hand.
use Rattle.std.proofs.Common.{◌≡◌, ℕ, List, Some, None, refl}
use Rattle.std.specs.Prelude.{codes}
use Rattle.trace_lines.specs.declared.limit_lines.LimitName.TheVariants as limit
use Rattle.trace_faults.specs.declared.profile_faults.defects.LineName.TheVariants as name
use Rattle.trace_faults.specs.ProfileLines.{line_number}

-- a comment and a longer word are no lines of a name, and the last line has no LF
lines : List ℕ
lines = codes "adapter 1\n# output\noutput 100\nplaces 1\noutputs\noutput 101\noutput 102"

the_outputs : (line_number lines name.Output 0 ≡ Some 3) × ((line_number lines name.Output 1 ≡ Some 6) × (line_number lines name.Output 2 ≡ None))
unfolding lines
the_outputs = (refl, (refl, refl))

a_limit : (line_number lines (name.Limit limit.Places) 0 ≡ Some 4) × (line_number lines (name.Limit limit.LeastRpi) 0 ≡ None)
unfolding lines
a_limit = (refl, refl)

no_slot : line_number lines name.Slot 0 ≡ None
unfolding lines
no_slot = refl
