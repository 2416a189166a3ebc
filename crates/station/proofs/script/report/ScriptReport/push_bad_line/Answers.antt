use Rattle.std.proofs.Common.{◌≡◌, ◌++◌, ◌∙◌, ap}
use Rattle.std.specs.Prelude.{codes}
use Rattle.station.specs.Script.Report.{between, message_of}
use Rattle.station.specs.Script.Texts.{line_text}
use Rattle.std.proofs.lemmas.List.{append_assoc}
use Rattle.station.proofs.script.report.ScriptReport.push_bad_line.Goals as goal

pub returns : goal.returns
returns c =
    let front : c.push_between.new.out.items ≡ c.args.out.now.items ++ between (codes "eip_station: ") c.args.self.now.name.now (codes ": script line ") = c.in_ok-push_between.ensures ∙ ap (λ t. c.args.out.now.items ++ between (codes "eip_station: ") t (codes ": script line ")) c.as_bytes.ensures.value in
    let line : c.push_line.new.out.items ≡ c.push_between.new.out.items ++ line_text c.args.line c.args.said.now.act = c.in_ok-push_line.ensures in
    let rest : c.push_between-2.new.out.items ≡ c.push_line.new.out.items ++ between (codes ": ") (message_of c.args.check.now) (codes "\n") = c.in_ok-push_between-2.ensures ∙ ap (λ t. c.push_line.new.out.items ++ between (codes ": ") t (codes "\n")) c.message_of.ensures in
    rest
    ∙ ap (λ l. l ++ between (codes ": ") (message_of c.args.check.now) (codes "\n")) (line
    ∙ ap (λ l. l ++ line_text c.args.line c.args.said.now.act) front
    ∙ append_assoc c.args.out.now.items (between (codes "eip_station: ") c.args.self.now.name.now (codes ": script line ")) (line_text c.args.line c.args.said.now.act))
    ∙ append_assoc c.args.out.now.items (between (codes "eip_station: ") c.args.self.now.name.now (codes ": script line ") ++ line_text c.args.line c.args.said.now.act) (between (codes ": ") (message_of c.args.check.now) (codes "\n"))
    ∙ ap (λ l. c.args.out.now.items ++ l) (append_assoc (between (codes "eip_station: ") c.args.self.now.name.now (codes ": script line ")) (line_text c.args.line c.args.said.now.act) (between (codes ": ") (message_of c.args.check.now) (codes "\n")))
