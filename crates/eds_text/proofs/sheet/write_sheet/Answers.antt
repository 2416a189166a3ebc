use Rattle.eds_text.specs.Classes.{classes_text}
use Rattle.eds_text.specs.Connections.{connections_of}
use Rattle.eds_text.specs.Device.{device_text}
use Rattle.eds_text.specs.Manager.{manager_text}
use Rattle.eds_text.specs.Names.{shown_names, sheet_names}
use Rattle.eds_text.specs.Offer.{capacity_of, offered_intervals, words_of}
use Rattle.eds_text.specs.Points.{points_text}
use Rattle.eds_text.specs.Sheet.{capacity_text, params_text, sheet_text, words_text}
use Rattle.eds_text.specs.Texts.{file_text, port_text}
use Rattle.eds_text.proofs.Words.{nine_texts}
use Rattle.eds_text.proofs.sheet.write_sheet.Goals as goal

pub returns : goal.returns
unfolding sheet_text
returns c =
    let profile = c.args.profile.now in
    let names = sheet_names (shown_names c.args.names.now) profile.description in
    rw (c.in_ok-push_capacity.ensures, c.in_ok-push_classes.ensures, c.in_ok-push_port.ensures, c.in_ok-push_manager.ensures, c.in_ok-push_points.ensures, c.in_ok-push_words.ensures, c.in_ok-push_params.ensures, c.in_ok-push_device.ensures, c.in_ok-push_file.ensures, c.new-out.ensures.bytes, c.capacity_of.ensures, c.as_slice.ensures.value, c.in_ok-connections.ensures, c.words_of.ensures.value, c.offered_intervals.ensures, c.sheet_names-names.ensures)
    (nine_texts file_text (device_text names profile.identity) (params_text (offered_intervals profile)) (words_text 0 (words_of profile.description profile.config)) (points_text profile) (manager_text profile.config (connections_of profile)) port_text (classes_text profile) (capacity_text (capacity_of profile)))
