-- The header that is written is read as the mode that it was written for.
use Rattle.std.proofs.Common.{◌≡◌, ℕ, Bool, true, false, List, ◌++◌, Some, ap, arith}
use Rattle.std.specs.Option.{option_map}
use Rattle.std.specs.Int.{w32, to_le_bytes}
use Rattle.cip_types.specs.FieldLaws.{wide32, field_again}
use Rattle.cip_datagram.specs.Header.{mode_header, is_run, header_at}

-- the mode that the header at the front says is the one that it was written for
pub header_reads : (run : Bool) (rest : List ℕ) → header_at (to_le_bytes w32 (mode_header run) ++ rest) ≡ Some (run, rest)
header_reads true rest = ap (option_map (λ (p : ℕ × List ℕ). (is_run p.0, p.1))) (field_again w32 wide32 1 rest (omega arith))
header_reads false rest = ap (option_map (λ (p : ℕ × List ℕ). (is_run p.0, p.1))) (field_again w32 wide32 0 rest (omega arith))
