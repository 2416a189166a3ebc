-- Lines of a story, worked by hand.
use Rattle.std.proofs.Common.{◌≡◌, [], ◌∷◌, refl, List, ℕ, Ok, Err}
use Rattle.std.specs.Prelude.{codes}
use Rattle.world_command.specs.declared.story.acts.StoryAct.TheVariants as act
use Rattle.world_command.specs.declared.story.faults.StoryLineFault.TheVariants as fault
use Rattle.world_command.specs.declared.story.line.StoryLine.TheVariants as line
use Rattle.cip_events.specs.declared.event.Event.TheVariants as event
use Rattle.trace_text.specs.Forms.{event_of, line_of as trace_line_of}
use Rattle.trace_words.specs.Words.{number_of}
use Rattle.world_command.specs.Story.Lines.{line_of}

abbrev names : List (List ℕ)
names = codes "adapter" ∷ codes "first" ∷ []

an_empty_line : line_of names [] ≡ Ok line.Skipped
unfolding line_of
an_empty_line = refl

a_comment : line_of names (codes "# it goes on") ≡ Ok line.Comment
unfolding line_of
a_comment = refl

a_device : line_of names (codes "device second second.profile") ≡ Ok (line.Device (record { name = codes "second"; profile = codes "second.profile" }))
unfolding line_of
a_device = refl

a_device_with_the_name_of_a_line : line_of names (codes "device device a.profile") ≡ Err fault.BadName
unfolding line_of
a_device_with_the_name_of_a_line = refl

a_device_once_more : line_of names (codes "device first first.profile") ≡ Err fault.SameName
unfolding line_of
a_device_once_more = refl

a_device_without_a_profile : line_of names (codes "device second") ≡ Err fault.NoProfile
unfolding line_of
a_device_without_a_profile = refl

a_stream : line_of names (codes "first opens adapter") ≡ Ok (line.Act 1 (act.Opens 0))
unfolding line_of
a_stream = refl

a_frame : line_of names (codes "adapter forth 0") ≡ Ok (line.Act 0 (act.Forth 0))
unfolding line_of number_of
a_frame = refl

a_frame_back : line_of names (codes "first back 7") ≡ Ok (line.Act 1 (act.Back 7))
unfolding line_of number_of
a_frame_back = refl

a_datagram : line_of names (codes "adapter takes 9") ≡ Ok (line.Act 0 (act.Takes 9))
unfolding line_of number_of
a_datagram = refl

a_cut : line_of names (codes "first cuts 0") ≡ Ok (line.Act 1 (act.Cuts 0))
unfolding line_of number_of
a_cut = refl

a_restart : line_of names (codes "first restarts 33") ≡ Ok (line.Act 1 (act.Restarts 33))
unfolding line_of number_of
a_restart = refl

no_incarnation : line_of names (codes "first restarts 256") ≡ Err fault.NoAct
unfolding line_of number_of event_of trace_line_of
no_incarnation = refl

nobody : line_of names (codes "tenth takes 0") ≡ Err fault.UnknownDevice
unfolding line_of
nobody = refl

a_stream_to_nobody : line_of names (codes "first opens tenth") ≡ Err fault.NoAct
unfolding line_of number_of event_of trace_line_of
a_stream_to_nobody = refl

a_call : line_of names (codes "first start 0") ≡ Ok (line.Act 1 (act.Own (event.Start 0)))
unfolding line_of number_of event_of trace_line_of
a_call = refl

a_tick : line_of names (codes "adapter tick 160") ≡ Ok (line.Act 0 (act.Own (event.Tick 160)))
unfolding line_of number_of event_of trace_line_of
a_tick = refl

-- the cut of a stream is an event of the network, and no call
no_call : line_of names (codes "adapter cut 0") ≡ Err fault.NoAct
unfolding line_of number_of event_of trace_line_of
no_call = refl
