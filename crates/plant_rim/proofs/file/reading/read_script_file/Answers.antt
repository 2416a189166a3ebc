use Rattle.std.proofs.Common.{rules, ◌≡◌, ◌∷◌, arith}
use Rattle.trace_text.specs.Reading.{parts_of}
use Rattle.plant_rim.proofs.ScriptLines.{good_script_line, script_stops}
use Rattle.plant_rim.proofs.file.reading.read_script_file.Goals as goal

pub returns-in-Err : goal.returns-in-Err
returns-in-Err c =
    let parted : parts_of c.loop-line.rest.now ≡ c.in-Some.line.now ∷ parts_of c.in-Some.after.now = search rules in
    script_stops _ c.loop-line.number c.loop-line.script.items _ c.in-Err.fault c.loop-line.rest.now c.in-Some.line.now _ c.loop-line.invariant.0 parted c.in-Err.ensures

pub loop-line-preserved : goal.loop-line-preserved
loop-line-preserved c =
    let parted : parts_of c.loop-line.rest.now ≡ c.in-Some.line.now ∷ parts_of c.in-Some.after.now = search rules in
    (good_script_line _ c.loop-line.number c.loop-line.script.items _ c.loop-line.rest.now c.in-Some.after.now c.in-Some.line.now c.loop-line.invariant.0 parted c.in-Ok.ensures, omega (arith, c.loop-line.invariant.1, c.in-Some.ensures.shorter))
