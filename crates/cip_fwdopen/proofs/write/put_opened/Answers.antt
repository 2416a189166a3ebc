use Rattle.std.proofs.Common.{[], ◌∷◌, Fits, w32, rules, arith}
use Rattle.std.specs.Int.{to_le_bytes}
use Rattle.cip_types.specs.Fields.{fields_text}
use Rattle.cip_types.specs.PartLaws.{appended}
use Rattle.cip_fwdopen.specs.Reply.{opened_service, opened_text, triad_widths, triad_numbers, OpenedFits}
use Rattle.cip_fwdopen.proofs.write.put_opened.Goals as goal
use Rattle.cip_fwdopen.specs.Services.{is_large_open}

fits : (c : goal.In_ok-put_bytes-2) → OpenedFits c.args.opened.now
fits c =
    let o_t_id : Fits w32 c.args.opened.now.o_t_id.0 = search rules in
    let t_o_id : Fits w32 c.args.opened.now.t_o_id.0 = search rules in
    let triad = c.put_triad.ensures.fits in
    let o_t_api_us : Fits w32 c.args.opened.now.o_t_api_us = search rules in
    let t_o_api_us : Fits w32 c.args.opened.now.t_o_api_us = search rules in
    (o_t_id.fits, (t_o_id.fits, (triad.0, (triad.1.0, (triad.1.1.0, (o_t_api_us.fits, (t_o_api_us.fits, (omega arith, (omega arith, tt)))))))))

pub returns : goal.returns
unfolding opened_text
returns c =
    let o = c.args.opened.now in (
      fits c,
      appended c.args.out.now.items c.put_bytes.new.out.items _ (opened_service (is_large_open c.args.service) ∷ 0 ∷ 0 ∷ 0 ∷ []) _ (rw c.reply_code.ensures at c.in_ok-put_bytes.ensures.ok)
          (appended c.put_bytes.new.out.items c.put_u32.new.out.items _ (to_le_bytes w32 o.o_t_id.0) _ c.in_ok-put_u32.ensures.ok
          (appended c.put_u32.new.out.items c.put_u32-2.new.out.items _ (to_le_bytes w32 o.t_o_id.0) _ c.in_ok-put_u32-2.ensures.ok
          (appended c.put_u32-2.new.out.items c.put_triad.new.out.items _ (fields_text triad_widths (triad_numbers o.triad)) _ c.in_ok-put_triad.ensures.text
          (appended c.put_triad.new.out.items c.put_u32-3.new.out.items _ (to_le_bytes w32 o.o_t_api_us) _ c.in_ok-put_u32-3.ensures.ok
          (appended c.put_u32-3.new.out.items c.put_u32-4.new.out.items c.put_bytes-2.new.out.items (to_le_bytes w32 o.t_o_api_us) (0 ∷ 0 ∷ []) c.in_ok-put_u32-4.ensures.ok c.in_ok-put_bytes-2.ensures.ok))))),
    )
