use Rattle.std.proofs.Common.{◌≡◌, ◌++◌, ◌∙◌, List, ℕ, ap, refl, string_bytes}
use Rattle.trace_text.specs.Written.{config_lines}
use Rattle.station_record.proofs.Growing.{begun}
use Rattle.station_record.proofs.recorder.Recorder.begin.Goals as goal

pub returns-clause-begun : goal.returns-clause-begun
returns-clause-begun g c = λ empty.
    let head : string_bytes c.push_str.new.self ≡ c.args.head.now = c.in_ok-push_str.ensures.bytes ∙ ap (λ (front : List ℕ). front ++ c.args.head.now) c.new-text.ensures.bytes in
    let text : string_bytes c.push_config.new.out ≡ c.args.head.now ++ config_lines c.args.config.now = c.in_ok-push_config.ensures ∙ ap (λ (front : List ℕ). front ++ config_lines c.args.config.now) head in
    begun (g.W.RecordSink.contents) c.args.out c.hand_over.new.out _ c.args.head.now c.args.config.now (string_bytes c.push_config.new.out) empty text c.in_ok-left.ensures.appends refl refl
