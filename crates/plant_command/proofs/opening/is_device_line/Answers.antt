use Rattle.std.proofs.Common.{◌∙◌, ap, refl, nat_eq}
use Rattle.std.specs.Prelude.{codes}
use Rattle.std.specs.List.{starts_with}
use Rattle.std.proofs.lemmas.Str.Ascii.{trim_ascii_is}
use Rattle.plant_command.proofs.opening.is_device_line.Goals as goal

pub returns : goal.returns
returns c = c.starts_with.ensures.value ∙ ap (λ text. starts_with nat_eq text (codes "device ")) (trim_ascii_is c.args.line.now c.trim_ascii.result.now _ refl c.trim_ascii.ensures.value)
