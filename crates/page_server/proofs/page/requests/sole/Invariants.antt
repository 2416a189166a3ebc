use Rattle.std.proofs.Common.{◌≡◌, drop}
use Rattle.page_server.specs.Page.Requests.{found_from, found_in, view_field}
use Rattle.page_server.proofs.page.requests.sole.Given as goal

-- what was found so far, and in the fields that are left, is what is found in all
abbrev pub invariant-loop-field : goal.invariant-loop-field
invariant-loop-field l = found_from l.bytes l.name (view_field l.found) (drop l.field-index l.fields) ≡ found_in l.bytes l.name l.fields
