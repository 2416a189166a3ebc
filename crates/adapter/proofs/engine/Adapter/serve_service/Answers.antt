use Rattle.std.proofs.Common.{Some}
use Rattle.cip_fwdopen.specs.Close.{view_close}
use Rattle.cip_fwdopen.specs.Open.{view_open}
use Rattle.cip_fwdopen.specs.Services.{is_large_open}
use Rattle.cip_router.specs.Requests.{closing, opening}
use Rattle.adapter_table.specs.Requests.{counted_by, served_end}
use Rattle.adapter_replies.specs.Routes.{peer_of}
use Rattle.adapter_replies.specs.Serving.{opening_served}
use Rattle.adapter.proofs.Serving.{closing_unbarred, opening_unbarred}
use Rattle.adapter.proofs.engine.Adapter.serve_service.Goals as goal

pub returns-in-Closing : goal.returns-in-Closing
returns-in-Closing g c =
    let t = c.args.self.now in
    let request = view_close c.in-Closing.request in
    rw (c.in-Closing.is, closing_unbarred t c.args.route request (Some (counted_by (closing request) (served_end t (peer_of c.args.route) request))) (rw c.in-Closing.is at c.requires.unbarred), ← c.self-in-Closing.view_is) c.forward_close.ensures

pub returns-in-Opening : goal.returns-in-Opening
returns-in-Opening g c =
    let t = c.args.self.now in
    let large = is_large_open c.in-Opening.service in
    let request = view_open c.in-Opening.request in
    rw (c.in-Opening.is, opening_unbarred t c.args.route large request (Some (counted_by (opening large request) (opening_served t c.args.route large request))) (rw c.in-Opening.is at c.requires.unbarred), ← c.self-in-Opening.view_is) c.forward_open.ensures
