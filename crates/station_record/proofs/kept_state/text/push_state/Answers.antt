use Rattle.std.specs.Prelude.{string_bytes, decimal, codes}
use Rattle.std.proofs.Common.{◌≡◌, ◌∙◌, ◌++◌, ap, sym, List, ℕ}
use Rattle.std.proofs.lemmas.List.{append_assoc}
use Rattle.std.proofs.lemmas.Result.{on_ok_weaker}
use Rattle.station_record.specs.KeptState.States.{ids_text, line_of, serials_text}
use Rattle.station_record.proofs.kept_state.text.push_state.Goals as goal

-- two lines, of which the second one is followed by a text
two_lines : (before word number end line text : List ℕ) → (before ++ (word ++ (number ++ (end ++ line)))) ++ text ≡ before ++ ((word ++ (number ++ end)) ++ (line ++ text))
two_lines before word number end line text =
    append_assoc before (word ++ (number ++ (end ++ line))) text
    ∙ ap (λ (t : List ℕ). before ++ t) (
    append_assoc word (number ++ (end ++ line)) text
    ∙ ap (λ (t : List ℕ). word ++ t) (append_assoc number (end ++ line) text ∙ ap (λ (t : List ℕ). number ++ t) (append_assoc end line text))
    ∙ sym (append_assoc word (number ++ end) (line ++ text) ∙ ap (λ (t : List ℕ). word ++ t) (append_assoc number end (line ++ text))))

pub returns : goal.returns
returns c =
    let state = c.args.state in
    on_ok_weaker c.push_ids.result
    (λ e. e ∙ (ap (λ (b : List ℕ). b ++ ids_text state.ids) (c.in_ok-push_serials.ensures ∙ ap (λ (b : List ℕ). b ++ serials_text state.serials) c.in_ok-write.ensures.bytes)
    ∙ (append_assoc _ (serials_text state.serials) (ids_text state.ids)
    ∙ two_lines (string_bytes c.args.out.now) (codes "incarnation ") (decimal state.incarnation) (codes "\n") (line_of (codes "serial ") state.serial) (serials_text state.serials ++ ids_text state.ids))))
    c.push_ids.ensures
