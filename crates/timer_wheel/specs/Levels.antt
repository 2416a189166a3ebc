-- The slots of deadlines. Slots 0 to 255 are the lowest level, a millisecond each; 256 to 511 the middle
-- one, 256 ms each; 512 to 767 the highest, 65,536 ms each. No public clause cites this module.
use Rattle.std.specs.Prelude.{ℕ, ◌+◌, ◌/◌, ◌%◌, ◌==◌, if◌then◌else◌}

-- the slot of a deadline: in the lowest level where it shares the block of `now`
unfoldable pub slot_of : ℕ → ℕ → ℕ
slot_of deadline now =
    (if deadline / 256 == now / 256 then deadline % 256
    else (if deadline / 65536 == now / 65536 then 256 + deadline / 256 % 256 else 512 + deadline / 65536 % 256))
