use Rattle.std.proofs.Common.{◌∙◌, ◌++◌, ◌/◌, ◌%◌, ap}
use Rattle.std.specs.Fmt.{styled_decimal}
use Rattle.std.specs.Prelude.{string_bytes}
use Rattle.station_record.proofs.Padding.{time_padded, three_padded, two_padded}
use Rattle.station_record.proofs.kept_files.timestamp.push_time.Goals as goal

pub returns : goal.returns
returns c =
    let ms = c.args.ms in
    let hour = ms / 3600000 % 24 in
    let minute = ms / 60000 % 60 in
    let second = ms / 1000 % 60 in
    let rest = ms % 1000 in
    c.in_ok-write.ensures.bytes ∙ ap (λ text. string_bytes c.args.out.now ++ text)
    (time_padded (styled_decimal c.laid_out.result hour) (styled_decimal c.laid_out-2.result minute) (styled_decimal c.laid_out-3.result second) (styled_decimal c.laid_out-4.result rest) ms
    (ap (λ spec. styled_decimal spec hour) c.laid_out.ensures ∙ two_padded hour)
    (ap (λ spec. styled_decimal spec minute) c.laid_out-2.ensures ∙ two_padded minute)
    (ap (λ spec. styled_decimal spec second) c.laid_out-3.ensures ∙ two_padded second)
    (ap (λ spec. styled_decimal spec rest) c.laid_out-4.ensures ∙ three_padded rest))
