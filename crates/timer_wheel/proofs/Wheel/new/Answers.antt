use Rattle.std.proofs.Common.{◌≡◌, arith, ap, ◌∙◌, refl, replicate, None, rules}
use Rattle.timer_wheel.specs.Layout.{armed_of}
use Rattle.timer_wheel.proofs.WheelLemmas.{IsSound-fresh, same_timers, armed_of-replicate, length-fresh}
use Rattle.timer_wheel.proofs.Wheel.new.Goals as goal

pub invariant_of-result : goal.invariant_of-result
invariant_of-result c =
    let made = c.in_ok-with_capacity.ensures in
    let timers : c.in_ok-vec.field-0.items ≡ replicate c.args.capacity None = c.in_ok-vec.ensures.items_if_clones_equal (λ y same. search rules) in
    let tokens : c.in_ok-vec-2.field-0.items ≡ replicate c.args.capacity (record { 0 = 0 }) = c.in_ok-vec-2.ensures.items_if_clones_equal (λ y same. same) in
    IsSound-fresh c.args.capacity _ _ _ _ _ _ c.in_ok-new.ensures timers tokens made.items (omega (arith, made.capacity))

pub returns : goal.returns
returns c =
    let timers : c.in_ok-vec.field-0.items ≡ replicate c.args.capacity None = c.in_ok-vec.ensures.items_if_clones_equal (λ y same. search rules) in
    same_timers _ _ refl (length-fresh c.args.capacity _ timers) (ap armed_of timers ∙ armed_of-replicate c.args.capacity)
