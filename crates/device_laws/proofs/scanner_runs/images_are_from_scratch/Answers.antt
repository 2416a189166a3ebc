use Rattle.device_laws.specs.ScannerRuns.{HoldsLastImages, HoldsLastImagesOrZeros}
use Rattle.device_laws.proofs.RunLemmas.{over_whole, over_fresh}
use Rattle.device_laws.proofs.scanner_runs.images_are_from_scratch.Goals as goal

pub returns : goal.returns
returns c =
    let bytes = c.bytes_are_from_scratch.ensures in
    record {
      whole = over_whole HoldsLastImages c.runs_fold_events.ensures (λ t events whole number was now before after. (bytes.events t events number was now before after).0);
      fresh = over_fresh HoldsLastImagesOrZeros c.runs_fold_events.ensures (λ profile events none number now after. (bytes.fresh profile events number now after).0);
    }
