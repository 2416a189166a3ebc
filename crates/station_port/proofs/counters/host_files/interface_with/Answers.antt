use Rattle.std.proofs.Common.{◌≡◌, ◌<◌, true, false, length, sym, ◌∙◌, arith}
use Rattle.std.proofs.lemmas.Bool.Decides.{nat_tests}
use Rattle.std.proofs.lemmas.Grind.{common_steps}
use Rattle.station_port.specs.Counters.HostLines.{line_of}
use Rattle.station_port.specs.Counters.HostFiles.{has_mask, mask_to}
use Rattle.station_port.proofs.HostWalks.{interface_found, interface_next, no_interface}
use Rattle.station_port.proofs.counters.host_files.interface_with.Goals as goal

pub returns-then-has_mask : goal.returns-then-has_mask
returns-then-has_mask c =
    let some : 0 < length c.loop-rest.rest.now = grind (arith, nat_tests, common_steps, c.loop-rest-test.ensures) in
    let is : has_mask (mask_to c.args.address (line_of c.loop-rest.rest.now)) c.args.mask ≡ true = cc in
    rw (c.word_of.ensures, c.line_of-line.ensures) (sym (interface_found c.args.address c.args.mask c.loop-rest.rest.now some is) ∙ c.loop-rest.invariant)

pub loop-rest-preserved : goal.loop-rest-preserved
loop-rest-preserved c =
    let some : 0 < length c.loop-rest.rest.now = grind (arith, nat_tests, common_steps, c.loop-rest-test.ensures) in
    let is : has_mask (mask_to c.args.address (line_of c.loop-rest.rest.now)) c.args.mask ≡ false = cc in
    rw c.behind_line-rest.ensures.rest (sym (interface_next c.args.address c.args.mask c.loop-rest.rest.now some is) ∙ c.loop-rest.invariant)

pub returns : goal.returns
returns c =
    let none : length c.loop-rest.rest.now ≡ 0 = grind (arith, nat_tests, common_steps, c.loop-rest-test.ensures) in
    sym (no_interface c.args.address c.args.mask c.loop-rest.rest.now none) ∙ c.loop-rest.invariant
