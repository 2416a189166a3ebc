use Rattle.std.proofs.Common.{◌≡◌, length, arith, sym, subst, ap}
use Rattle.std.specs.Prelude.{IfSome}
use Rattle.cip_epath.specs.Path.{PathFields, view_path}
use Rattle.cip_epath.specs.Written.{path_text, AreWords}
use Rattle.cip_fwdopen.specs.Close.{CloseFields}
use Rattle.scanner_requests.proofs.Lengths.{segment_words, path_short, close_short}
use Rattle.scanner_requests.proofs.frames.close_frame.Goals as goal

pub path_len-requires : goal.path_len-requires
path_len-requires c = subst (λ (p : PathFields). IfSome p.segment AreWords) (sym c.slot_path.ensures) (segment_words c.args.config.now c.requires)

pub close_len-len-requires : goal.close_len-len-requires
close_len-len-requires c = omega (arith, c.path_len.ensures, ap (λ (p : PathFields). length (path_text p)) c.slot_path.ensures, path_short c.args.config.now c.requires)

pub manager_front-requires : goal.manager_front-requires
manager_front-requires c =
    let len : length (path_text (view_path c.slot_path.result)) ≡ c.path_len.result = sym c.path_len.ensures in
    let contents : CloseFields = record { priority_tick = 0x0A; ticks = 0x0E; triad = c.args.triad; path = path_text (view_path c.slot_path.result) } in
    omega (arith, c.close_len-len.ensures contents len, close_short contents (omega (arith, c.path_len.ensures, ap (λ (p : PathFields). length (path_text p)) c.slot_path.ensures, path_short c.args.config.now c.requires)), c.path_len.ensures, ap (λ (p : PathFields). length (path_text p)) c.slot_path.ensures, path_short c.args.config.now c.requires)

pub put_close-requires-clause-words : goal.put_close-requires-clause-words
put_close-requires-clause-words c = subst (λ (p : PathFields). IfSome p.segment AreWords) (sym c.slot_path.ensures) (segment_words c.args.config.now c.requires)

pub put_close-requires-clause-short : goal.put_close-requires-clause-short
put_close-requires-clause-short c = omega (arith, ap (λ (p : PathFields). length (path_text p)) c.slot_path.ensures, path_short c.args.config.now c.requires)
