-- Changes of a link: a stream without its frames.
use Rattle.std.specs.Prelude.{ℕ, not, Bool, true, false}
use Rattle.segment_world.specs.declared.transit.direction.Direction.{Direction}
use Rattle.segment_world.specs.declared.transit.direction.Direction.TheVariants.{Forth, Back}
use Rattle.segment_world.specs.declared.transit.links.StreamEnd.{StreamEnd}
use Rattle.segment_world.specs.declared.transit.links.StreamLink.{StreamLink}

abbrev pub fresh_end : StreamEnd
fresh_end = record { taken = false; ending = false }

abbrev pub fresh_link : ℕ → ℕ → StreamLink
fresh_link from to = record { from = from; to = to; ended = false; forth = fresh_end; back = fresh_end }

abbrev pub end_of : Direction → StreamLink → StreamEnd
end_of Forth link = link.forth
end_of Back link = link.back

abbrev pub with_end : Direction → StreamLink → StreamEnd → StreamLink
with_end Forth link end = record link { forth = end }
with_end Back link end = record link { back = end }

-- the mark that the stream was cut waits for an end that has received the mark that it has opened
abbrev pub ending_end : StreamEnd → StreamEnd
ending_end end = record { taken = end.taken; ending = end.taken }

abbrev pub quiet_end : StreamEnd → StreamEnd
quiet_end end = record { taken = end.taken; ending = false }

abbrev pub cut_link : StreamLink → StreamLink
cut_link link = record link { ended = true; forth = ending_end link.forth; back = ending_end link.back }

abbrev pub closed_link : StreamLink → Direction → StreamLink
closed_link link Forth = record link { ended = true; forth = ending_end link.forth; back = quiet_end link.back }
closed_link link Back = record link { ended = true; forth = quiet_end link.forth; back = ending_end link.back }

-- the end received the mark that waited: that the stream was cut, or that it has opened
abbrev pub end_after : Bool → StreamEnd → StreamEnd
end_after true end = quiet_end end
end_after false end = record { taken = true; ending = end.ending }

-- the front, if there is one, is a mark
abbrev pub is_marked : Bool → Bool → Bool
is_marked true taken = true
is_marked false taken = not taken
