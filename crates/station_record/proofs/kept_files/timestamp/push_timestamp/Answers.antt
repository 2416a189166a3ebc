use Rattle.std.proofs.Common.{◌∙◌, ◌++◌, ap}
use Rattle.std.specs.Prelude.{string_bytes}
use Rattle.std.proofs.lemmas.List.{append_assoc}
use Rattle.std.proofs.lemmas.Result.{on_ok_weaker}
use Rattle.station_record.specs.KeptFiles.Timestamps.{day_text, time_text}
use Rattle.station_record.proofs.kept_files.timestamp.push_timestamp.Goals as goal

pub returns : goal.returns
returns c =
    let before = string_bytes c.args.out.now in
    on_ok_weaker c.push_time.result
    (λ e. e ∙ ap (λ text. text ++ time_text c.args.ms) (c.in_ok-push_day.ensures ∙ ap (λ day. before ++ day_text day) c.day_of.ensures) ∙ append_assoc before _ (time_text c.args.ms))
    c.push_time.ensures
