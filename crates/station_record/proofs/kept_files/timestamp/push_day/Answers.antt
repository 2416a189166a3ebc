use Rattle.std.proofs.Common.{◌∙◌, ◌++◌, ap}
use Rattle.std.specs.Fmt.{styled_decimal}
use Rattle.std.specs.Prelude.{string_bytes}
use Rattle.station_record.proofs.Padding.{day_padded, four_padded, two_padded}
use Rattle.station_record.proofs.kept_files.timestamp.push_day.Goals as goal

pub returns : goal.returns
returns c =
    let day = c.args.day in
    c.in_ok-write.ensures.bytes ∙ ap (λ text. string_bytes c.args.out.now ++ text)
    (day_padded (styled_decimal c.laid_out.result day.year) (styled_decimal c.laid_out-2.result day.month) (styled_decimal c.laid_out-3.result day.day) day
    (ap (λ spec. styled_decimal spec day.year) c.laid_out.ensures ∙ four_padded day.year)
    (ap (λ spec. styled_decimal spec day.month) c.laid_out-2.ensures ∙ two_padded day.month)
    (ap (λ spec. styled_decimal spec day.day) c.laid_out-3.ensures ∙ two_padded day.day))
