use Rattle.std.proofs.Common.{ℕ, ◌/◌, ◌%◌, arith, sym, ◌∙◌, ap}
use Rattle.std.proofs.lemmas.Nat.{and_mask}
use Rattle.cip_netparams.specs.Laws.Bits.{flag_of_low, flag_of_bit}
use Rattle.cip_netparams.specs.Laws.Words.{carries_16, params_of_16}
use Rattle.cip_netparams.proofs.word.read16.Goals as goal

pub returns-clause-carried : goal.returns-clause-carried
returns-clause-carried c = carries_16 c.args.word _ c.ranges.word.fits (and_mask c.args.word 9) (flag_of_low (c.args.word / 512)) (c.priority_of.ensures ∙ and_mask c.from.result 2 ∙ ap (λ (n : ℕ). n % 4) c.from.ensures) (c.type_of.ensures ∙ and_mask c.from-2.result 2 ∙ ap (λ (n : ℕ). n % 4) c.from-2.ensures) (flag_of_bit (c.args.word / 32768) (omega arith))

pub returns-clause-value : goal.returns-clause-value
returns-clause-value c = sym (params_of_16 c.args.word _ (returns-clause-carried c))

pub returns-clause-only : goal.returns-clause-only
returns-clause-only c = λ other is. returns-clause-value c ∙ params_of_16 c.args.word other is
