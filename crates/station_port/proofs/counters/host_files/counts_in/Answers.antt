use Rattle.std.proofs.Common.{◌≡◌, ◌<◌, true, false, length, sym, ◌∙◌, arith}
use Rattle.std.proofs.lemmas.Bool.Decides.{nat_tests}
use Rattle.std.proofs.lemmas.Grind.{common_steps}
use Rattle.station_port.specs.Counters.HostLines.{line_of}
use Rattle.station_port.specs.Counters.HostFiles.{is_of}
use Rattle.station_port.proofs.HostWalks.{counts_found, counts_next, no_counts}
use Rattle.station_port.proofs.counters.host_files.counts_in.Goals as goal

pub returns-then-is_of : goal.returns-then-is_of
returns-then-is_of c =
    let some : 0 < length c.loop-rest.rest.now = grind (arith, nat_tests, common_steps, c.loop-rest-test.ensures) in
    let is : is_of c.args.interface.now (line_of c.loop-rest.rest.now) ≡ true = cc in
    rw (c.behind_colon.ensures, c.line_of-line.ensures) (sym (counts_found c.args.interface.now c.loop-rest.rest.now some is) ∙ c.loop-rest.invariant)

pub loop-rest-preserved : goal.loop-rest-preserved
loop-rest-preserved c =
    let some : 0 < length c.loop-rest.rest.now = grind (arith, nat_tests, common_steps, c.loop-rest-test.ensures) in
    let is : is_of c.args.interface.now (line_of c.loop-rest.rest.now) ≡ false = cc in
    rw c.behind_line-rest.ensures.rest (sym (counts_next c.args.interface.now c.loop-rest.rest.now some is) ∙ c.loop-rest.invariant)

pub returns : goal.returns
returns c =
    let none : length c.loop-rest.rest.now ≡ 0 = grind (arith, nat_tests, common_steps, c.loop-rest-test.ensures) in
    sym (no_counts c.args.interface.now c.loop-rest.rest.now none) ∙ c.loop-rest.invariant
