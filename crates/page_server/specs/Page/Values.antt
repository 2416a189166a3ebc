-- What the words of a request's head say (RFC 9112, sections 2 to 5; W3C Fetch Metadata Request Headers, section 2.3).
use Rattle.std.specs.Prelude.{ℕ, ◌+◌, ◌==◌, ◌&&◌, ◌||◌, nat_lt, bytes_eq, if◌then◌else◌, Bool, List, [], take, drop, codes, position, Option, Some, None}
use Rattle.trace_words.specs.Words.{number_of}
use Rattle.page_server.specs.declared.page.request.Body.{Body}
use Rattle.page_server.specs.declared.page.request.Body.TheVariants as body
use Rattle.page_server.specs.declared.page.request.Method.{Method}
use Rattle.page_server.specs.declared.page.request.Method.TheVariants as method
use Rattle.page_server.specs.declared.page.request.PagePath.{PagePath}
use Rattle.page_server.specs.declared.page.request.PagePath.TheVariants as page

-- the method of a word
abbrev pub method_of : List ℕ → Method
method_of word = if bytes_eq word (codes "GET") then method.Get else (if bytes_eq word (codes "POST") then method.Post else method.Other)

-- THE TARGET OF A REQUEST

abbrev pub is_query_mark : ℕ → Bool
is_query_mark byte = byte == 63

abbrev pub parts_at : List ℕ → Option ℕ → List ℕ × List ℕ
parts_at target (Some place) = (take place target, drop (place + 1) target)
parts_at target None = (target, [])

-- the path of a target, and what stands behind its first question mark (RFC 3986, section 3.4)
abbrev pub target_parts : List ℕ → List ℕ × List ℕ
target_parts target = parts_at target (position is_query_mark target)

-- what a path names
abbrev pub path_of : List ℕ → PagePath
path_of word =
    if bytes_eq word (codes "/") then page.Page
    else (if bytes_eq word (codes "/events") then page.Events
    else (if bytes_eq word (codes "/call") then page.Call
    else (if bytes_eq word (codes "/record") then page.Record
    else (if bytes_eq word (codes "/record.pcap") then page.Capture
    else page.Unknown))))

-- a body of so many bytes: a call has at most 4,096
abbrev pub body_with : ℕ → Body
body_with count = if count == 0 then body.Empty else (if nat_lt 4096 count then body.TooLong else body.Bytes count)

abbrev pub body_read : Option ℕ → Body
body_read (Some count) = body_with count
body_read None = body.Bad

-- the body of a length in digits
abbrev pub body_of : List ℕ → Body
body_of digits = body_read (number_of 64 digits)

-- an origin is that of the page at a host
abbrev pub is_from_host : List ℕ → List ℕ → Bool
is_from_host origin host = bytes_eq (take 7 origin) (codes "http://") && bytes_eq (drop 7 origin) host

-- A browser says that a page of another site makes a request, or another page of this host. Words that it may say in future
-- are not judged.
abbrev pub is_other_site : List ℕ → Bool
is_other_site word = bytes_eq word (codes "cross-site") || bytes_eq word (codes "same-site")
