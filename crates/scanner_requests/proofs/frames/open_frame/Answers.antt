use Rattle.std.proofs.Common.{◌≡◌, length, arith, sym, subst, ap}
use Rattle.std.specs.Prelude.{IfSome}
use Rattle.cip_epath.specs.Path.{PathFields, view_path}
use Rattle.cip_epath.specs.Written.{path_text, AreWords}
use Rattle.cip_fwdopen.specs.Open.{sent_open}
use Rattle.scanner_requests.proofs.Lengths.{segment_words, path_short, open_short}
use Rattle.scanner_requests.proofs.frames.open_frame.Goals as goal
use Rattle.cip_fwdopen.specs.Services.{is_large_open}

pub path_len-requires : goal.path_len-requires
path_len-requires c = subst (λ (p : PathFields). IfSome p.segment AreWords) (sym c.open_request-request.ensures.path) (segment_words c.args.config.now c.requires.lengths)

pub open_len-len-requires : goal.open_len-len-requires
open_len-len-requires c = omega (arith, c.path_len.ensures, ap (λ (p : PathFields). length (path_text p)) c.open_request-request.ensures.path, path_short c.args.config.now c.requires.lengths)

pub manager_front-requires : goal.manager_front-requires
manager_front-requires c =
    let len : length (path_text (view_path c.open_request-request.result.path)) ≡ c.path_len.result = sym c.path_len.ensures in
    let contents = sent_open c.open_request-request.result in
    omega (arith, c.open_len-len.ensures contents len, open_short (is_large_open c.service_for-service.result) contents (omega (arith, c.path_len.ensures, ap (λ (p : PathFields). length (path_text p)) c.open_request-request.ensures.path, path_short c.args.config.now c.requires.lengths)), c.path_len.ensures, ap (λ (p : PathFields). length (path_text p)) c.open_request-request.ensures.path, path_short c.args.config.now c.requires.lengths)

pub put_open-requires-clause-words : goal.put_open-requires-clause-words
put_open-requires-clause-words c = subst (λ (p : PathFields). IfSome p.segment AreWords) (sym c.open_request-request.ensures.path) (segment_words c.args.config.now c.requires.lengths)

pub put_open-requires-clause-short : goal.put_open-requires-clause-short
put_open-requires-clause-short c = omega (arith, ap (λ (p : PathFields). length (path_text p)) c.open_request-request.ensures.path, path_short c.args.config.now c.requires.lengths)
