-- Which requests another page makes, worked by hand from the fields of their heads.
use Rattle.std.proofs.Common.{◌≡◌, ◌∷◌, [], true, false, refl}
use Rattle.std.specs.Prelude.{codes}
use Rattle.page_server.specs.Page.Answers.{answer_to}
use Rattle.page_server.specs.Page.Requests.{Missing, One, Several, found_in, is_foreign}
use Rattle.page_server.specs.declared.page.answers.PageAnswer.TheVariants as answer
use Rattle.page_server.specs.declared.page.answers.PageRefusal.TheVariants as refusal
use Rattle.page_server.specs.declared.page.request.Allowed.{Allowed}
use Rattle.page_server.specs.declared.page.request.Body.TheVariants.{Empty}
use Rattle.page_server.specs.declared.page.request.Method.TheVariants.{Get}
use Rattle.page_server.specs.declared.page.request.PagePath.TheVariants.{Events, Page}
use Rattle.page_server.specs.Page.Values.{target_parts}

-- a browser that says nothing of the page, an address that was typed, and the page itself
silent_browser : is_foreign (One (codes "127.0.0.1:8080")) Missing Missing ≡ false
silent_browser = refl

typed_address : is_foreign (One (codes "127.0.0.1:8080")) Missing (One (codes "none")) ≡ false
typed_address = refl

own_page : is_foreign (One (codes "127.0.0.1:8080")) (One (codes "http://127.0.0.1:8080")) (One (codes "same-origin")) ≡ false
own_page = refl

-- a page of another site, another page of this host, and a word that no browser says yet
other_site : is_foreign (One (codes "127.0.0.1:8080")) Missing (One (codes "cross-site")) ≡ true
other_site = refl

other_page : is_foreign (One (codes "localhost:8080")) Missing (One (codes "same-site")) ≡ true
other_page = refl

unknown_word : is_foreign (One (codes "127.0.0.1:8080")) Missing (One (codes "elsewhere")) ≡ false
unknown_word = refl

-- two such fields, and another origin whatever is said of its site
two_fields : is_foreign (One (codes "127.0.0.1:8080")) Missing Several ≡ true
two_fields = refl

other_origin : is_foreign (One (codes "127.0.0.1:8080")) (One (codes "http://127.0.0.1:8081")) (One (codes "same-origin")) ≡ true
other_origin = refl

-- the field of a head, whose name has other letters
field_of_a_head :
    found_in (codes "GET / HTTP/1.1\r\nSec-Fetch-Site: cross-site\r\n\r\n") (codes "sec-fetch-site")
    (record { name = record { start = 16; end = 30 }; value = record { start = 32; end = 42 } } ∷ [])
    ≡ One (codes "cross-site")
field_of_a_head = refl

-- a foreign request of the event stream is refused
foreign_is_forbidden : (allowed : Allowed) →
    answer_to (record { method = Get; path = Events; has_own_host = true; is_foreign = true; has_word = true; has_token = false; body = Empty }) allowed
    ≡ answer.Refused refusal.Forbidden
foreign_is_forbidden allowed = refl

-- the event stream for whom the page itself has not told its word, and for whom it has
strange_events : (allowed : Allowed) →
    answer_to (record { method = Get; path = Events; has_own_host = true; is_foreign = false; has_word = false; has_token = true; body = Empty }) allowed
    ≡ answer.Refused refusal.Forbidden
strange_events allowed = refl

own_events : (allowed : Allowed) →
    answer_to (record { method = Get; path = Events; has_own_host = true; is_foreign = false; has_word = true; has_token = false; body = Empty }) allowed
    ≡ answer.Events
own_events allowed = refl

-- the page needs no word
bare_page : (allowed : Allowed) →
    answer_to (record { method = Get; path = Page; has_own_host = true; is_foreign = false; has_word = false; has_token = false; body = Empty }) allowed
    ≡ answer.Page
bare_page allowed = refl

-- the word of a request's target: what stands behind the first question mark
word_of_events : target_parts (codes "/events?0a0b") ≡ (codes "/events", codes "0a0b")
word_of_events = refl

two_marks : target_parts (codes "/record?0a?0b") ≡ (codes "/record", codes "0a?0b")
two_marks = refl

no_word : target_parts (codes "/events") ≡ (codes "/events", [])
no_word = refl
