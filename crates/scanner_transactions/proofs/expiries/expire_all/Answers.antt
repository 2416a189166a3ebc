use Rattle.std.proofs.Common.{◌≡◌, ◌∙◌, List, ℕ, filter, get_or, map, ap, refl, arith}
use Rattle.cip_types.specs.Order.{in_order}
use Rattle.scanner_table.specs.declared.profile.SlotConfig.{SlotConfig}
use Rattle.scanner_table.specs.declared.slot.Slot.{Slot}
use Rattle.scanner_table.specs.Slots.{indexed_from}
use Rattle.scanner_table.specs.Ticks.{by_deadline, has_expired, expired_slots}
use Rattle.scanner_slots.specs.Views.{slot_number}
use Rattle.scanner_transactions.specs.Transactions.{view_transaction}
use Rattle.scanner_transactions.proofs.Faultless.{few}
use Rattle.scanner_transactions.proofs.Remaining.{goes_on}
use Rattle.scanner_transactions.proofs.Ordered.{all_remain, one_expires, all_expire}
use Rattle.scanner_transactions.proofs.expiries.expire_all.Goals as goal

pub expired_numbers-requires : goal.expired_numbers-requires
expired_numbers-requires c = rw c.as_slice.ensures (few c.args.transaction.now.profile.now c.args.transaction.now.faultless)

pub loop-number-init : goal.loop-number-init
loop-number-init c = record { remains = all_remain (view_transaction c.args.transaction.now); kept = (refl, refl, refl) }

pub loop-number-preserved : goal.loop-number-preserved
loop-number-preserved c =
    let t = (view_transaction c.args.transaction.now).table in
    let are : c.in_ok-numbers.numbers.items ≡ map slot_number (expired_slots t) =
    c.in_ok-numbers.ensures
    ∙ ap (λ (configs : List SlotConfig). map slot_number (in_order by_deadline (filter (has_expired t.clock) (indexed_from 0 configs c.deref.result.now)))) c.as_slice.ensures
    ∙ ap (λ (slots : List Slot). map slot_number (in_order by_deadline (filter (has_expired t.clock) (indexed_from 0 t.profile.slots slots)))) c.deref.ensures.value in
    record {
      remains = one_expires _ (view_transaction c.loop-number.transaction) (view_transaction c.expire.new.self) t c.in_ok-numbers.numbers.items c.loop-number.number-index _ 0 are (omega arith) (ap (λ (ns : List ℕ). get_or ns c.loop-number.number-index 0) c.deref-number-items.ensures.value) c.loop-number.invariant.remains c.in_ok-expire.ensures.effect;
      kept = goes_on c.args.transaction.now c.loop-number.transaction c.expire.new.self c.loop-number.invariant.kept c.in_ok-expire.ensures.kept;
    }

pub returns : goal.returns
returns c =
    let t = (view_transaction c.args.transaction.now).table in
    let are : c.in_ok-numbers.numbers.items ≡ map slot_number (expired_slots t) =
    c.in_ok-numbers.ensures
    ∙ ap (λ (configs : List SlotConfig). map slot_number (in_order by_deadline (filter (has_expired t.clock) (indexed_from 0 configs c.deref.result.now)))) c.as_slice.ensures
    ∙ ap (λ (slots : List Slot). map slot_number (in_order by_deadline (filter (has_expired t.clock) (indexed_from 0 t.profile.slots slots)))) c.deref.ensures.value in
    record {
      effect = all_expire _ (view_transaction c.loop-number.transaction) t c.in_ok-numbers.numbers.items c.loop-number.number-index are (omega arith) c.loop-number.invariant.remains;
      kept = c.loop-number.invariant.kept;
    }
