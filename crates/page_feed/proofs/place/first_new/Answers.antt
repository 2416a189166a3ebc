use Rattle.std.proofs.Common.{◌≡◌, ℕ, suc, ◌+◌, ◌-◌, List, length, false, Some, cond, sym, ap, ◌∙◌, arith}
use Rattle.page_feed.specs.Turns.{first_of, is_new}
use Rattle.page_feed.proofs.place.first_new.Goals as goal

-- a device without a new text is passed over
passed : (numbers seen : List ℕ) (device count all : ℕ) → all ≡ suc count → is_new numbers seen device ≡ false → first_of numbers seen (device + 1) count ≡ first_of numbers seen device all
passed numbers seen device count all more old =
    sym (ap (first_of numbers seen device) more ∙ ap (λ b. cond b (Some device) (first_of numbers seen (device + 1) count)) old)

pub loop-device-preserved : goal.loop-device-preserved
loop-device-preserved c =
    passed c.args.numbers.now c.args.seen.now c.loop-device.device (length c.args.numbers.now - (c.loop-device.device + 1)) (length c.args.numbers.now - c.loop-device.device) (omega arith) (sym c.is_new.ensures ∙ c.if-is_new.false)
    ∙ c.loop-device.invariant
