-- What is answered to a request of a browser (RFC 9110, sections 9 and 15.5).
use Rattle.std.specs.Prelude.{◌&&◌, ◌||◌, not, if◌then◌else◌, Bool, true, false}
use Rattle.page_server.specs.declared.page.request.Allowed.{Allowed}
use Rattle.page_server.specs.declared.page.request.PageRequest.{PageRequest}
use Rattle.page_server.specs.declared.page.request.Body.{Body}
use Rattle.page_server.specs.declared.page.request.Body.TheVariants as body
use Rattle.page_server.specs.declared.page.request.Method.{Method}
use Rattle.page_server.specs.declared.page.request.Method.TheVariants as method
use Rattle.page_server.specs.declared.page.request.PagePath.{PagePath}
use Rattle.page_server.specs.declared.page.request.PagePath.TheVariants as page
use Rattle.page_server.specs.declared.page.answers.PageAnswer.{PageAnswer}
use Rattle.page_server.specs.declared.page.answers.PageAnswer.TheVariants as answer
use Rattle.page_server.specs.declared.page.answers.PageRefusal.TheVariants as refusal

-- there is something at this path
abbrev pub is_there : PagePath → Allowed → Bool
is_there page.Record allowed = allowed.record
is_there page.Capture allowed = allowed.record
is_there page.Unknown allowed = false
is_there other allowed = true

-- the method that a path takes
abbrev pub method_for : PagePath → Method
method_for page.Call = method.Post
method_for other = method.Get

-- a path is for the page alone, which has the word; the page itself is for everybody
abbrev pub needs_word : PagePath → Bool
needs_word page.Page = false
needs_word other = true

abbrev pub is_same_method : Method → Method → Bool
is_same_method method.Get method.Get = true
is_same_method method.Post method.Post = true
is_same_method request _ = false

-- a call, which is handed on only with a body that is short enough
abbrev pub call_with : Body → PageAnswer
call_with (body.Bytes count) = answer.Call count
call_with body.TooLong = answer.Refused refusal.TooLarge
call_with other = answer.Refused refusal.Bad

-- it is handed on only where calls are allowed, and to whom the token was told
abbrev pub answer_to_call : PageRequest → Allowed → PageAnswer
answer_to_call request allowed = if not allowed.writes || not request.has_token then answer.Refused refusal.Forbidden else call_with request.body

abbrev pub page_at : PagePath → PageAnswer
page_at page.Page = answer.Page
page_at page.Events = answer.Events
page_at page.Record = answer.Record
page_at page.Capture = answer.Capture
page_at other = answer.Refused refusal.NotFound

abbrev pub page_with : PagePath → Body → PageAnswer
page_with at body.Empty = page_at at
page_with at other = answer.Refused refusal.Bad

-- a request that reads, which has no body
abbrev pub answer_to_read : PageRequest → PageAnswer
answer_to_read request = page_with request.path request.body

abbrev pub answer_of : PagePath → PageRequest → Allowed → PageAnswer
answer_of page.Call request allowed = answer_to_call request allowed
answer_of other request allowed = answer_to_read request

-- what is answered, in the order of the refusals
abbrev pub answer_to : PageRequest → Allowed → PageAnswer
answer_to request allowed =
    if not request.has_own_host || request.is_foreign then answer.Refused refusal.Forbidden
    else (if not (is_there request.path allowed) then answer.Refused refusal.NotFound
    else (if not (is_same_method request.method (method_for request.path)) then answer.Refused refusal.NotAllowed
    else (if needs_word request.path && not request.has_word then answer.Refused refusal.Forbidden
    else answer_of request.path request allowed)))
