use Rattle.std.proofs.Common.{◌≡◌, List, ℕ, ◌<◌, ◌/◌, [], ◌∷◌, ◌++◌, length, arith, refl, sym, ap, ◌∙◌}
use Rattle.cip_types.specs.Fields.{fields_text}
use Rattle.cip_types.specs.PartLaws.{appended}
use Rattle.cip_fwdopen.specs.Close.{close_contents}
use Rattle.cip_fwdopen.specs.Reply.{triad_widths, triad_numbers}
use Rattle.cip_fwdopen.proofs.CloseLaws.{close_text_parts}
use Rattle.cip_fwdopen.proofs.close.put_close_front.Goals as goal

pub returns : goal.returns
returns g c = λ path is.
    let r = c.args.request.now in
    let ticks = c.in_ok-put_two.ensures.fits in
    let triad = c.in_ok-put_triad.ensures.fits in
    let words = c.in_ok-put_two-2.ensures.fits in
    let half : length path / 2 ≡ c.args.words = omega (arith, is) in
    let small : length path / 2 < 256 = omega (arith, words.0, half) in
    let parts = close_text_parts (close_contents r path) ticks.0 ticks.1 small in
    let words_are : c.put_two-2.new.out.items ≡ c.put_triad.new.out.items ++ length path / 2 ∷ 0 ∷ [] = rw half c.in_ok-put_two-2.ensures.text in (
      record { numbers = (ticks.0, (ticks.1, (triad.0, (triad.1.0, (triad.1.1.0, (small, (words.1, tt))))))); words = omega (arith, is) },
      appended c.args.out.now.items c.put_two.new.out.items _ (r.priority_tick ∷ r.ticks ∷ []) _ c.in_ok-put_two.ensures.text
          (appended c.put_two.new.out.items c.put_triad.new.out.items _ (fields_text triad_widths (triad_numbers r.triad)) _ c.in_ok-put_triad.ensures.text
          (appended c.put_triad.new.out.items c.put_two-2.new.out.items (c.put_two-2.new.out.items ++ path) (length path / 2 ∷ 0 ∷ []) path words_are refl))
          ∙ ap (λ (x : List ℕ). c.args.out.now.items ++ x) (sym parts),
    )
