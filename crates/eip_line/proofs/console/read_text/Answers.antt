use Rattle.std.proofs.Common.{rules, ◌≡◌, ◌++◌, [], take}
use Rattle.std.specs.Prelude.{IfSome}
use Rattle.std.specs.Option.{option_map}
use Rattle.eip_line.proofs.Limits.{whole, longer, cut, at_most}
use Rattle.eip_line.proofs.console.read_text.Goals as goal

pub returns-then-len-gt-LONGEST_TRACE-clause-long : goal.returns-then-len-gt-LONGEST_TRACE-clause-long
returns-then-len-gt-LONGEST_TRACE-clause-long g c e =
    let known : IfSome (option_map (take 16777217) (g.I.Read.remaining c.args.reader.now)) (λ xs. c.read_to_end.new.buf.items ≡ [] ++ xs) = cut (λ r. g.I.Read.remaining r.now) c.take.result _ 16777217 _ _ c.take.ensures.limit c.take.ensures.inner c.new-text.ensures.items c.in-Ok.ensures.bytes in
    longer 16777216 (g.I.Read.remaining c.args.reader.now) c.read_to_end.new.buf.items known (search rules)

pub returns-clause-all : goal.returns-clause-all
returns-clause-all g c =
    let known : IfSome (option_map (take 16777217) (g.I.Read.remaining c.args.reader.now)) (λ xs. c.read_to_end.new.buf.items ≡ [] ++ xs) = cut (λ r. g.I.Read.remaining r.now) c.take.result _ 16777217 _ _ c.take.ensures.limit c.take.ensures.inner c.new-text.ensures.items c.in-Ok.ensures.bytes in
    at_most _ _ (whole 16777217 (g.I.Read.remaining c.args.reader.now) c.read_to_end.new.buf.items known (search rules))
