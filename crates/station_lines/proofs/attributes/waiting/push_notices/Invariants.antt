use Rattle.std.proofs.Common.{◌≡◌, ◌++◌, drop, string_bytes}
use Rattle.station_lines.specs.Attributes.Replies.{requested_through, notice_lines}
use Rattle.station_lines.proofs.attributes.waiting.push_notices.Given as goal

-- the lines so far, with those of the notices that are left, are all; and what is left leads to what waits behind all
abbrev pub invariant-loop-notice : goal.invariant-loop-notice
invariant-loop-notice l =
    (string_bytes l.out ++ notice_lines l.moment (drop l.notice-index l.notices) l.requested.items
    ≡ string_bytes l.fn.out ++ notice_lines l.moment l.notices l.fn.requested.items)
    × (requested_through (drop l.notice-index l.notices) l.requested.items ≡ requested_through l.notices l.fn.requested.items)
