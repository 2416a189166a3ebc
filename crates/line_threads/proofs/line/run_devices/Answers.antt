use Rattle.std.proofs.Common.{List, Vec, Global, length, map, subst, sym}
use Rattle.std.specs.Prelude.{All}
use Rattle.device_lock.specs.declared.receipt.Receipt.{Receipt}
use Rattle.line_threads.specs.declared.line.Job.{Job}
use Rattle.line_threads.specs.Lines.{IsJob, ReportsScripts}
use Rattle.line_threads.proofs.Reporting.{if_gathered, jobs_fit, report_all}
use Rattle.line_threads.proofs.line.run_devices.Goals as goal

pub run_jobs-requires-after_bounds : goal.run_jobs-requires-after_bounds
run_jobs-requires-after_bounds g c κs within =
    subst (λ (jobs : List Job). All (IsJob (length c.args.devices.now)) jobs) (sym c.in_ok-jobs.ensures)
    (jobs_fit (length c.args.devices.now) c.args.scripts.items c.requires.scripts c.requires.own)

pub returns : goal.returns
returns g c =
    if_gathered c.gather.result c.in_ok-run_jobs.field-0.items
    (λ (v : Vec Receipt Global). ReportsScripts (map g.L.Locked.device c.args.devices.now) c.args.scripts.items v.items)
    c.gather.ensures.receipts c.gather.ensures.well
    (λ v is well. report_all g.L.Locked.device c.args.devices.now c.args.scripts.items c.in_ok-jobs.jobs.items c.in_ok-run_jobs.field-0.items v.items c.requires.scripts c.requires.apart c.in_ok-jobs.ensures c.in_ok-run_jobs.ensures.len c.in_ok-run_jobs.ensures.each well is)
