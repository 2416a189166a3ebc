use Rattle.std.proofs.Common.{refl}
use Rattle.trace_text.specs.declared.builder.TraceBuilder.TheVariants.{Events}
use Rattle.trace_text.proofs.TextLines.{line_refused}
use Rattle.trace_text.proofs.builder.after_events.Goals as goal

pub returns-in-Err : goal.returns-in-Err
returns-in-Err c = line_refused (Events c.args.config c.args.entries c.args.last) (Events c.args.config c.args.entries c.args.last) _ c.args.parsed _ refl (c.in-Err.ensures c.args.config)
