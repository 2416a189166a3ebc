use Rattle.std.proofs.Common.{arith, ◌∙◌}
use Rattle.cip_epath.specs.Path.{view_path}
use Rattle.cip_epath.specs.Written.{path_text}
use Rattle.cip_epath.specs.Laws.Texts.{path_text_whole}
use Rattle.cip_fwdopen.proofs.close.put_close.Goals as goal

pub returns : goal.returns
returns c =
    let text = path_text (view_path c.args.request.now.path) in
    let whole = path_text_whole (view_path c.args.request.now.path) c.in_ok-put_path.ensures.fits in
    let front = c.in_ok-put_close_front.ensures text (omega (arith, whole, c.path_len.ensures, c.requires.short)) in
    c.in_ok-put_path.ensures.text ∙ front.1
