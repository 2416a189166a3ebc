use Rattle.std.proofs.Common.{◌^◌, ◌/◌, arith, sym, ◌∙◌}
use Rattle.std.proofs.lemmas.Nat.{and_mask}
use Rattle.cip_netparams.specs.Laws.Bits.{flag_of_low, flag_of_bit}
use Rattle.cip_netparams.specs.Laws.Words.{carries_32, params_of_32}
use Rattle.cip_netparams.proofs.word.read32.Goals as goal

pub returns-clause-carried : goal.returns-clause-carried
returns-clause-carried c = carries_32 c.args.word _ c.ranges.word.fits (and_mask c.args.word 16) (flag_of_low (c.args.word / 2 ^ 25)) (c.priority_of.ensures ∙ and_mask (c.args.word / 2 ^ 26) 2) (c.type_of.ensures ∙ and_mask (c.args.word / 2 ^ 29) 2) (flag_of_bit (c.args.word / 2 ^ 31) (omega arith))

pub returns-clause-value : goal.returns-clause-value
returns-clause-value c = sym (params_of_32 c.args.word _ (returns-clause-carried c))

pub returns-clause-only : goal.returns-clause-only
returns-clause-only c = λ other is. returns-clause-value c ∙ params_of_32 c.args.word other is
