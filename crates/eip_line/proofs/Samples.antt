-- What the definitions give at worked values.
use Rattle.std.proofs.Common.{◌≡◌, true, [], ◌∷◌, refl}
use Rattle.cip_events.specs.declared.event.Event.TheVariants.{Write, Tick, Mode, Start}
use Rattle.eip_line.specs.LineSetup.Scripts.{line_scripts, scanner_script}

-- two turns of an adapter, its owner and another scanner
two_turns : line_scripts 2 2
    ≡ (Write 100 (1 ∷ 0 ∷ 0 ∷ 0 ∷ []) ∷ Tick 1 ∷ Write 100 (2 ∷ 0 ∷ 0 ∷ 0 ∷ []) ∷ Tick 1 ∷ [])
    ∷ (Start 0 ∷ Mode true ∷ Write 0 (1 ∷ 0 ∷ 0 ∷ 0 ∷ []) ∷ Tick 1 ∷ Write 0 (2 ∷ 0 ∷ 0 ∷ 0 ∷ []) ∷ Tick 1 ∷ [])
    ∷ (Start 0 ∷ Mode true ∷ Tick 1 ∷ Tick 1 ∷ [])
    ∷ []
two_turns = refl

-- no turn
none : scanner_script 0 0 ≡ Start 0 ∷ Mode true ∷ []
none = refl
