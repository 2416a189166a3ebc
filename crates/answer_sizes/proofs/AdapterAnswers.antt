-- An adapter's answers are small.
use Rattle.std.proofs.Common.{refl}
use Rattle.cip_events.specs.declared.event.Event.{Event}
use Rattle.cip_events.specs.declared.event.Event.TheVariants as event
use Rattle.adapter_table.specs.declared.table.AdapterTable.{AdapterTable}
use Rattle.adapter_table.specs.Step.{adapter_step}
use Rattle.adapter_table.specs.Whole.{IsWhole}
use Rattle.answer_sizes.proofs.AdapterDatagrams.{tick_small, write_small}
use Rattle.answer_sizes.proofs.AdapterFrames.{requested_small, frame_small, inquired_small}
use Rattle.answer_sizes.proofs.AdapterReplies.{respond_small}
use Rattle.answer_sizes.proofs.Answers.{noted_small, AnswersSmall}
use Rattle.adapter_table.specs.Lemmas.PlainLemmas.{plain_holds}

pub adapter_small : (t : AdapterTable) (happens : Event) → IsWhole t → AnswersSmall (adapter_step t happens)
adapter_small t (event.Request peer bytes) whole = requested_small t peer bytes whole.shaped
adapter_small t (event.Frame stream bytes) whole = frame_small t stream bytes whole
adapter_small t (event.Inquiry peer bytes) whole = inquired_small t peer bytes whole.shaped
adapter_small t (event.Write point bytes) whole = write_small t point bytes whole.shaped whole.sound.few
adapter_small t (event.Tick ms) whole = tick_small t ms whole
adapter_small t (event.Respond number status bytes) whole = respond_small t number status bytes
adapter_small t other whole = plain_holds (λ said. AnswersSmall said) t (λ why. tt) (λ verdict notices u. noted_small verdict notices) other refl
