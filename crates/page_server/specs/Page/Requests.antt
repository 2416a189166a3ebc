-- What the head of a request asks for and shows (RFC 9112, sections 2 to 5; RFC 9110, sections 5.1 and 7.2; W3C Fetch Metadata
-- Request Headers, section 2.3).
use Rattle.std.specs.Prelude.{◌≡◌, ℕ, ◌&&◌, ◌||◌, not, nat_le, nat_lt, bytes_eq, map, if◌then◌else◌, Bool, true, false, List, [], ◌∷◌, ◌++◌, length, take, slice_range, string_bytes, codes, decimal, option_map, Option, Some, None, IsUtf8, ⊤}
use Rattle.std.specs.Char.{to_ascii_lowercase}
use Rattle.cip_types.specs.declared.names.Node.{Node}
use Rattle.trace_words.specs.Words.{node_word}
use Rattle.httparse.specs.declared.spans.HeaderSpan.{HeaderSpan}
use Rattle.httparse.specs.declared.spans.RequestSpans.{RequestSpans}
use Rattle.httparse.specs.declared.spans.Span.{Span}
use Rattle.httparse.specs.Spans.{IsRequestOf}
use Rattle.page_server.specs.declared.page.request.Body.{Body}
use Rattle.page_server.specs.declared.page.request.Body.TheVariants as body
use Rattle.page_server.specs.declared.page.request.PageRequest.{PageRequest}
use Rattle.page_server.specs.declared.page.requests.Field.{Field}
use Rattle.page_server.specs.declared.page.requests.Field.TheVariants as field
use Rattle.page_server.specs.declared.page.requests.OwnNames.{OwnNames}
use Rattle.page_server.specs.declared.page.requests.RequestReading.{RequestReading}
use Rattle.page_server.specs.declared.page.requests.RequestReading.TheVariants as reading
use Rattle.page_server.specs.Page.Values.{body_of, is_from_host, is_other_site, method_of, path_of, target_parts}

-- FIELDS

-- the bytes of a span
abbrev pub text_at : List ℕ → Span → List ℕ
text_at bytes span = if nat_le span.start span.end && nat_le span.end (length bytes) then slice_range bytes span.start span.end else []

-- a field has this name, whatever the case of its letters
abbrev pub is_named : List ℕ → List ℕ → Bool
is_named name other = bytes_eq (map to_ascii_lowercase name) (map to_ascii_lowercase other)

-- how often a head has a field, and the value of one that it has once
pub data Found : Type 0 where
  Missing : Found
  One : List ℕ → Found
  Several : Found

abbrev pub view_field : Field → Found
view_field field.Missing = Missing
view_field (field.One value) = One value.now
view_field field.Several = Several

-- with a value more
abbrev pub found_also : Found → List ℕ → Found
found_also Missing value = One value
found_also other value = Several

abbrev pub found_at : List ℕ → List ℕ → Found → HeaderSpan → Found
found_at bytes name found span = if is_named (text_at bytes span.name) name then found_also found (text_at bytes span.value) else found

abbrev pub found_from : List ℕ → List ℕ → Found → List HeaderSpan → Found
found_from bytes name found [] = found
found_from bytes name found (span ∷ spans) = found_from bytes name (found_at bytes name found span) spans

-- the field of this name
abbrev pub found_in : List ℕ → List ℕ → List HeaderSpan → Found
found_in bytes name spans = found_from bytes name Missing spans

-- WHAT A REQUEST SHOWS

-- the name of the host that is given, with the port
abbrev pub host_at : Option (List ℕ) → ℕ → Option (List ℕ)
host_at host port = option_map (λ name. name ++ (codes ":" ++ decimal port)) host

-- The names of a page at an address and a port are that address, localhost, and the one that is given, each with the port; its
-- word and its token are these.
pub record AreNames (address : Node) (port : ℕ) (host : Option (List ℕ)) (word token : List ℕ) (names : OwnNames) : Type 0 where
  pub address_is : string_bytes names.address ≡ node_word address ++ (codes ":" ++ decimal port)
  pub local_is : string_bytes names.local ≡ codes "localhost:" ++ decimal port
  pub host_is : option_map (λ name. string_bytes name) names.host ≡ host_at host port
  pub word_is : names.word.items ≡ word
  pub token_is : names.token.items ≡ token

-- a host is this one, whatever the case of its letters (RFC 3986, section 3.2.2)
abbrev pub is_this_host : List ℕ → Option (List ℕ) → Bool
is_this_host host None = false
is_this_host host (Some name) = is_named host name

abbrev pub is_given : OwnNames → List ℕ → Bool
is_given names host = is_this_host host (option_map (λ name. string_bytes name) names.host)

-- a host is a name of the page: its address, or that of this host, or the one that was given, with its port
abbrev pub is_own : OwnNames → List ℕ → Bool
is_own names host = bytes_eq host (string_bytes names.address) || (bytes_eq host (string_bytes names.local) || is_given names host)

abbrev pub is_own_host : OwnNames → Found → Bool
is_own_host names (One host) = is_own names host
is_own_host names other = false

-- a word is the page's, which is not empty
abbrev pub is_word : OwnNames → List ℕ → Bool
is_word names word = nat_lt 0 (length word) && bytes_eq word names.word.items

-- a token is the page's, which is not empty
abbrev pub is_token : OwnNames → List ℕ → Bool
is_token names token = nat_lt 0 (length token) && bytes_eq token names.token.items

abbrev pub is_own_token : OwnNames → Found → Bool
is_own_token names (One token) = is_token names token
is_own_token names other = false

-- the request has an origin, and not that of its host
abbrev pub has_other_origin : Found → Found → Bool
has_other_origin host Missing = false
has_other_origin (One host) (One origin) = not (is_from_host origin host)
has_other_origin host origin = true

-- its browser says that a page of another site makes it, or another page of this host
abbrev pub is_of_other_site : Found → Bool
is_of_other_site Missing = false
is_of_other_site (One site) = is_other_site site
is_of_other_site Several = true

-- another page makes the request
abbrev pub is_foreign : Found → Found → Found → Bool
is_foreign host origin site = has_other_origin host origin || is_of_other_site site

-- The body of a head with these fields of its coding and of its length: one that is coded, or has two lengths, is bad. A length is
-- read as text.
abbrev pub Announces : Found → Found → Body → Type 0
Announces Missing Missing said = said ≡ body.Empty
Announces Missing (One digits) said = IsUtf8 digits → said ≡ body_of digits
Announces Missing Several said = said ≡ body.Bad
Announces coding count said = said ≡ body.Bad

-- What a request asks for and shows, as its head has it.
pub record Shows (names : OwnNames) (bytes : List ℕ) (spans : RequestSpans) (fields : List HeaderSpan) (request : PageRequest) : Type 0 where
  pub way : request.method ≡ method_of (text_at bytes spans.method)
  pub place : request.path ≡ path_of (target_parts (text_at bytes spans.path)).0
  pub host : request.has_own_host ≡ is_own_host names (found_in bytes (codes "host") fields)
  pub page : request.is_foreign ≡ is_foreign (found_in bytes (codes "host") fields) (found_in bytes (codes "origin") fields) (found_in bytes (codes "sec-fetch-site") fields)
  pub word : request.has_word ≡ is_word names (target_parts (text_at bytes spans.path)).1
  pub token : request.has_token ≡ is_own_token names (found_in bytes (codes "x-station-token") fields)
  pub announces : Announces (found_in bytes (codes "transfer-encoding") fields) (found_in bytes (codes "content-length") fields) request.body

-- A whole head is one of the grammar of requests, at the front of the bytes, and says what is request.
abbrev pub ReadsAs : OwnNames → List ℕ → RequestReading → Type 0
ReadsAs names bytes (reading.Whole request len) = (spans : RequestSpans) × (fields : List HeaderSpan) × IsRequestOf bytes fields spans × Shows names bytes spans (take spans.headers fields) request × (len ≡ spans.len)
ReadsAs names bytes other = ⊤
