use Rattle.std.proofs.Common.{◌≡◌, ◌-◌, ◌++◌, Some, None, [], ◌∷◌, length, sym, ◌∙◌, arith, length-append}
use Rattle.station_port.specs.Counters.HostLines.{decimal_of, word_of}
use Rattle.station_port.proofs.HostWalks.{no_numbers, numbers_next, numbers_over}
use Rattle.station_port.proofs.counters.host_files.numbers_in.Goals as goal

pub returns-in_default-clause-numbers : goal.returns-in_default-clause-numbers
returns-in_default-clause-numbers c =
    let is : decimal_of (word_of c.loop-rest.rest.now) ≡ None = cc in
    sym (no_numbers c.loop-rest.numbers.items (16 - length c.loop-rest.numbers.items) c.loop-rest.rest.now (omega arith) is) ∙ c.loop-rest.invariant.so_far

pub loop-rest-preserved : goal.loop-rest-preserved
loop-rest-preserved c =
    let more : c.push.new.self.items ≡ c.loop-rest.numbers.items ++ c.in-Some.number ∷ [] = c.in_ok-push.ensures.items in
    let is : decimal_of (word_of c.loop-rest.rest.now) ≡ Some c.in-Some.number = cc in
    let left : 16 - length (c.loop-rest.numbers.items ++ c.in-Some.number ∷ []) ≡ 16 - length c.loop-rest.numbers.items - 1 =
    omega (arith, length-append c.loop-rest.numbers.items (c.in-Some.number ∷ [])) in
    record {
      so_far = rw (more, left, c.behind_word-rest.ensures) (sym (numbers_next c.loop-rest.numbers.items (16 - length c.loop-rest.numbers.items) c.loop-rest.rest.now c.in-Some.number (omega arith) is)
          ∙ c.loop-rest.invariant.so_far);
      few = rw more (omega (arith, length-append c.loop-rest.numbers.items (c.in-Some.number ∷ [])));
    }

pub returns-clause-numbers : goal.returns-clause-numbers
returns-clause-numbers c =
    sym (numbers_over c.loop-rest.numbers.items (16 - length c.loop-rest.numbers.items) c.loop-rest.rest.now (omega arith)) ∙ c.loop-rest.invariant.so_far
