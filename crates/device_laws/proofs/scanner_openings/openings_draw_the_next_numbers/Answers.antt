use Rattle.device_laws.proofs.DrawnSteps.{steps_begin, events_begin}
use Rattle.device_laws.proofs.scanner_openings.openings_draw_the_next_numbers.Goals as goal

pub returns : goal.returns
returns c = record { step = steps_begin; events = events_begin }
