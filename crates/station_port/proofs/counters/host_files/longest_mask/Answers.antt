use Rattle.std.proofs.Common.{◌≡◌, ◌<◌, length, sym, ◌∙◌, arith}
use Rattle.std.proofs.lemmas.Bool.Decides.{nat_tests}
use Rattle.std.proofs.lemmas.Grind.{common_steps}
use Rattle.station_port.proofs.HostWalks.{longest_next, longest_over}
use Rattle.station_port.proofs.counters.host_files.longest_mask.Goals as goal

pub loop-rest-preserved : goal.loop-rest-preserved
loop-rest-preserved c =
    let some : 0 < length c.loop-rest.rest.now = grind (arith, nat_tests, common_steps, c.loop-rest-test.ensures) in
    rw (c.longer-longest.ensures, c.mask_to.ensures, c.line_of.ensures, c.behind_line-rest.ensures.rest)
    (sym (longest_next c.loop-rest.longest c.args.address c.loop-rest.rest.now some) ∙ c.loop-rest.invariant)

pub returns : goal.returns
returns c =
    let none : length c.loop-rest.rest.now ≡ 0 = grind (arith, nat_tests, common_steps, c.loop-rest-test.ensures) in
    sym (longest_over c.loop-rest.longest c.args.address c.loop-rest.rest.now none) ∙ c.loop-rest.invariant
