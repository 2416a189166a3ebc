use Rattle.std.proofs.Common.{◌≡◌, Result, Ok, Err, subst}
use Rattle.cip_events.specs.declared.event.Answer.{Answer}
use Rattle.cip_events.specs.declared.event.Event.{Event}
use Rattle.cip_events.specs.declared.event.StepFault.{StepFault}
use Rattle.adapter_table.specs.Requests.{Next}
use Rattle.adapter_table.specs.Step.{adapter_step}
use Rattle.scanner_table.specs.Effects.{Next as ScannerNext}
use Rattle.scanner_table.specs.Step.{scanner_step}
use Rattle.cip_tables.specs.declared.table.DeviceTable.{DeviceTable}
use Rattle.cip_tables.specs.declared.table.DeviceTable.TheVariants.{Adapter, Scanner}
use Rattle.cip_tables.specs.Step.{DeviceNext, as_adapter, as_scanner, step}
use Rattle.cip_tables.specs.Whole.{IsWholeDevice}
use Rattle.answer_sizes.specs.Sizes.{IsSmall}
use Rattle.answer_sizes.proofs.Answers.{AnswersSmall}
use Rattle.answer_sizes.proofs.AdapterAnswers.{adapter_small}
use Rattle.answer_sizes.proofs.ScannerAnswers.{AdvancesWhole, scanner_small}
use Rattle.answer_sizes.proofs.answers_are_small.Goals as goal

of_adapter : (said : Result Next StepFault) → AnswersSmall said → AnswersSmall (as_adapter said)
of_adapter (Ok next) small = small
of_adapter (Err why) small = tt

of_scanner : (said : Result ScannerNext StepFault) → AnswersSmall said → AnswersSmall (as_scanner said)
of_scanner (Ok next) small = small
of_scanner (Err why) small = tt

steps_small : AdvancesWhole → (t : DeviceTable) (event : Event) → IsWholeDevice t → AnswersSmall (step t event)
unfolding step
steps_small advance (Adapter t) event whole = of_adapter (adapter_step t event) (adapter_small t event whole)
steps_small advance (Scanner t) event whole = of_scanner (scanner_step t event) (scanner_small advance t event whole.table)

answer_small : (said : Result DeviceNext StepFault) (answer : Answer) (next : DeviceTable) → said ≡ Ok (answer, next) → AnswersSmall said → IsSmall answer
answer_small said answer next is small = subst (AnswersSmall {T = DeviceTable}) is small

pub returns : goal.returns
returns c = λ t event answer next whole is. answer_small (step t event) answer next is (steps_small c.advancing_keeps_tables_well_formed.ensures t event whole)
