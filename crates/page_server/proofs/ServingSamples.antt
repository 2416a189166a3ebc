-- Where a page is served, who is served, and how long a browser may take, worked by hand.
use Rattle.std.proofs.Common.{◌≡◌, ℕ, ◌∷◌, [], true, false, Some, None, Ok, Err, refl}
use Rattle.std.specs.declared.io.ErrorKind.TheVariants as kind
use Rattle.page_server.specs.IdleThreads.{IdleThreads, after_call, fresh_threads, has_thread, page_node, with_idle}
use Rattle.page_server.specs.Reads.{after_read, request_in}
use Rattle.page_server.specs.Waits.{is_whole, piece_wait_ms, request_wait_ms, write_wait_ms}
use Rattle.page_server.specs.declared.page.answers.PageRefusal.TheVariants.{Late, TooLarge}
use Rattle.page_server.specs.declared.page.request.Body.TheVariants.{Bytes, TooLong}
use Rattle.page_server.specs.declared.page.request.PageRequest.{PageRequest}
use Rattle.page_server.specs.declared.page.requests.RequestReading.TheVariants as reading
use Rattle.page_server.specs.declared.talk.Unheard.TheVariants.{Left, Refused}

-- 127 x 2^24 + 1
this_host_alone : page_node None ≡ record { 0 = 2130706433 }
this_host_alone = refl

-- 10.0.0.9
the_chosen_address : page_node (Some (record { 0 = 167772169 })) ≡ record { 0 = 167772169 }
the_chosen_address = refl

-- one thread waits, and then one browser for it
one_idle : IdleThreads ℕ
one_idle = with_idle fresh_threads

one_taken : IdleThreads ℕ
one_taken = record one_idle { waiting = 7 ∷ [] }

the_first_is_served : has_thread one_idle ≡ true
unfolding one_idle
the_first_is_served = refl

the_second_is_turned_away : has_thread one_taken ≡ false
unfolding one_idle one_taken
the_second_is_turned_away = refl

its_thread_is_busy : has_thread (after_call one_taken) ≡ false
unfolding one_idle one_taken
its_thread_is_busy = refl

-- a request of which a byte comes each 0.3 s is over after ten of them
what_is_left_of_a_request : request_wait_ms 2999 ≡ 1
what_is_left_of_a_request = refl

a_request_that_is_over : request_wait_ms 3000 ≡ 0
a_request_that_is_over = refl

-- who reads nothing is given up after one write of 3 s, who takes 1,000 bytes in 5,009 ms has 1 ms left
a_first_write : write_wait_ms 0 0 ≡ 3000
a_first_write = refl

a_late_write : write_wait_ms 5009 1000 ≡ 1
a_late_write = refl

an_answer_that_is_over : write_wait_ms 5010 1000 ≡ 0
an_answer_that_is_over = refl

a_piece_that_is_over : piece_wait_ms 10000 ≡ 0
a_piece_that_is_over = refl

-- a head of 100 bytes, and a body of 20
a_body_that_is_missing : is_whole (Bytes 20) 100 119 ≡ false
a_body_that_is_missing = refl

a_body_that_has_come : is_whole (Bytes 20) 100 120 ≡ true
a_body_that_has_come = refl

a_refused_body_is_not_waited_for : is_whole TooLong 100 100 ≡ true
a_refused_body_is_not_waited_for = refl

-- a head that never ends is refused with its 12,288th byte, and so is a body that is not whole by then
a_head_without_end : (request_in reading.Partial 12287 ≡ Ok None) × (request_in reading.Partial 12288 ≡ Err (Refused TooLarge))
a_head_without_end = (refl, refl)

a_body_of_many_bytes : (given : PageRequest) → request_in (reading.Whole (record given { body = Bytes 4096 }) 8193) 12288 ≡ Err (Refused TooLarge)
a_body_of_many_bytes given = refl

a_whole_request : (given : PageRequest) → request_in (reading.Whole (record given { body = Bytes 4096 }) 8192) 12288 ≡ Ok (Some (record given { body = Bytes 4096 }, 8192))
a_whole_request given = refl

-- the end of the stream, 17 bytes, a signal, two waits that are over, and a stream that was reset
what_reads_bring : (after_read (Ok 0) ≡ Err Left) × ((after_read (Ok 17) ≡ Ok 17) × ((after_read (Err kind.Interrupted) ≡ Ok 0)
    × ((after_read (Err kind.WouldBlock) ≡ Err (Refused Late)) × ((after_read (Err kind.TimedOut) ≡ Err (Refused Late)) × (after_read (Err kind.ConnectionReset) ≡ Err Left)))))
what_reads_bring = (refl, (refl, (refl, (refl, (refl, refl)))))
