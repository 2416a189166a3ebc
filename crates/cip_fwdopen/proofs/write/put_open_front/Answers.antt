use Rattle.std.proofs.Common.{◌≡◌, List, ℕ, ◌/◌, ◌<◌, [], ◌∷◌, ◌++◌, length, w8, w32, arith, refl, sym, ap, ◌∙◌}
use Rattle.std.specs.Int.{to_le_bytes}
use Rattle.cip_types.specs.Fields.{fields_text, AreFields}
use Rattle.cip_types.specs.PartLaws.{appended}
use Rattle.cip_fwdopen.specs.Open.{open_contents, open_widths, open_numbers, params_width, params_word}
use Rattle.cip_fwdopen.specs.Reply.{triad_widths, triad_numbers}
use Rattle.cip_fwdopen.proofs.ParamsLaws.{params_word_fits}
use Rattle.cip_fwdopen.proofs.OpenLaws.{direction_text, open_text_parts}
use Rattle.cip_fwdopen.proofs.write.put_open_front.Goals as goal
use Rattle.cip_fwdopen.specs.Services.{is_large_open}

pub returns : goal.returns
returns g c = λ path is.
    let r = c.args.request.now in
    let large = (is_large_open c.args.service) in
    let ticks = c.in_ok-put_two.ensures.fits in
    let o_t_id = c.in_ok-put_long.ensures.fits in
    let t_o_id = c.in_ok-put_long-2.ensures.fits in
    let triad = c.in_ok-put_triad.ensures.fits in
    let multiplier = c.in_ok-put_two-2.ensures.fits in
    let spare = c.in_ok-put_two-3.ensures.fits in
    let o_t_rpi = c.in_ok-put_direction.ensures.fits in
    let o_t = params_word_fits large r.o_t_params c.requires.o_t_size in
    let t_o_rpi = c.in_ok-put_direction-2.ensures.fits in
    let t_o = params_word_fits large r.t_o_params c.requires.t_o_size in
    let transport = c.in_ok-put_two-4.ensures.fits in
    let half : length path / 2 ≡ c.args.words = omega (arith, is) in
    let small : length path / 2 < 256 = omega (arith, transport.1, half) in
    let intervals : AreFields (w32 ∷ params_width large ∷ w32 ∷ params_width large ∷ w8 ∷ w8 ∷ []) (r.o_t_rpi ∷ params_word large r.o_t_params ∷ r.t_o_rpi ∷ params_word large r.t_o_params ∷ r.trigger ∷ length path / 2 ∷ []) =
    (o_t_rpi, (o_t, (t_o_rpi, (t_o, (transport.0, (small, tt)))))) in
    let numbers : AreFields (open_widths large) (open_numbers large (open_contents r path)) =
    (ticks.0, (ticks.1, (o_t_id, (t_o_id, (triad.0, (triad.1.0, (triad.1.1.0, (multiplier.0, (multiplier.1, (spare.0, (spare.1, intervals))))))))))) in
    let parts = open_text_parts large (open_contents r path) ticks.0 ticks.1 multiplier.0 transport.0 small in
    let words_are : c.put_two-4.new.out.items ≡ c.put_direction-2.new.out.items ++ r.trigger ∷ length path / 2 ∷ [] = rw half c.in_ok-put_two-4.ensures.text in (
      record { numbers = numbers; o_t_size = c.requires.o_t_size; t_o_size = c.requires.t_o_size; words = omega (arith, is) },
      appended c.args.out.now.items c.put_two.new.out.items _ (r.priority_tick ∷ r.ticks ∷ []) _ c.in_ok-put_two.ensures.text
          (appended c.put_two.new.out.items c.put_long.new.out.items _ (to_le_bytes w32 r.o_t_id.0) _ c.in_ok-put_long.ensures.text
          (appended c.put_long.new.out.items c.put_long-2.new.out.items _ (to_le_bytes w32 r.t_o_id.0) _ c.in_ok-put_long-2.ensures.text
          (appended c.put_long-2.new.out.items c.put_triad.new.out.items _ (fields_text triad_widths (triad_numbers r.triad)) _ c.in_ok-put_triad.ensures.text
          (appended c.put_triad.new.out.items c.put_two-2.new.out.items _ (r.multiplier ∷ 0 ∷ []) _ c.in_ok-put_two-2.ensures.text
          (appended c.put_two-2.new.out.items c.put_two-3.new.out.items _ (0 ∷ 0 ∷ []) _ c.in_ok-put_two-3.ensures.text
          (appended c.put_two-3.new.out.items c.put_direction.new.out.items _ (direction_text large r.o_t_rpi r.o_t_params) _ c.in_ok-put_direction.ensures.text
          (appended c.put_direction.new.out.items c.put_direction-2.new.out.items _ (direction_text large r.t_o_rpi r.t_o_params) _ c.in_ok-put_direction-2.ensures.text
          (appended c.put_direction-2.new.out.items c.put_two-4.new.out.items (c.put_two-4.new.out.items ++ path) (r.trigger ∷ length path / 2 ∷ []) path words_are refl))))))))
          ∙ ap (λ (x : List ℕ). c.args.out.now.items ++ x) (sym parts),
    )
