use Rattle.device_laws.specs.ScannerRuns.{HoldsLastOutputs, HoldsLastOutputsOrZeros}
use Rattle.device_laws.proofs.RunLemmas.{over_whole, over_fresh}
use Rattle.device_laws.proofs.scanner_runs.outputs_are_from_scratch.Goals as goal

pub returns : goal.returns
returns c =
    let bytes = c.bytes_are_from_scratch.ensures in
    record {
      whole = over_whole HoldsLastOutputs c.runs_fold_events.ensures (λ t events whole number was now before after. (bytes.events t events number was now before after).1);
      fresh = over_fresh HoldsLastOutputsOrZeros c.runs_fold_events.ensures (λ profile events none number now after. (bytes.fresh profile events number now after).1);
    }
