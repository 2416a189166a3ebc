-- A profile that is written is read as itself.
use Rattle.std.proofs.Common.{◌≡◌, ℕ, ◌<◌, ◌^◌, true, List, [], ◌∷◌, ◌++◌, Option, Some, None, refl, sym, subst, ap, ◌∙◌, arith, append_assoc}
use Rattle.std.specs.Prelude.{decimal, codes, drop, flat_map, option_map, option_to_list, IfSome}
use Rattle.std.specs.List.{All}
use Rattle.std.proofs.lemmas.List.{append-nil}
use Rattle.cip_types.specs.declared.ids.IdBlock.{IdBlock}
use Rattle.cip_events.specs.declared.event.Event.TheVariants as event
use Rattle.adapter_table.specs.declared.profile.Action.{Action}
use Rattle.adapter_table.specs.declared.profile.Action.TheVariants.{Zero, Hold}
use Rattle.adapter_table.specs.declared.maker_limits.MakerLimits.{MakerLimits}
use Rattle.adapter_table.specs.declared.profile.Description.{Description}
use Rattle.adapter_table.specs.declared.profile.InputPoint.{InputPoint}
use Rattle.adapter_table.specs.declared.profile.OutputPoint.{OutputPoint}
use Rattle.adapter_table.specs.declared.profile.Profile.{Profile}
use Rattle.adapter_table.specs.Profiles.{no_limits}
use Rattle.cip_tables.specs.declared.table.Config.TheVariants as config
use Rattle.trace_words.specs.Words.{number_of, line_text}
use Rattle.trace_lines.specs.declared.forms.AdapterLine.{AdapterLine}
use Rattle.trace_lines.specs.declared.forms.HeartbeatLine.{HeartbeatLine}
use Rattle.trace_lines.specs.declared.limit_lines.LimitLine.{LimitLine}
use Rattle.trace_lines.specs.declared.limit_lines.LimitLine.TheVariants as limit
use Rattle.trace_lines.specs.Kinds.{action_word, closers_of, openings_of}
use Rattle.trace_lines.specs.declared.limit_lines.LimitName.{LimitName}
use Rattle.trace_lines.specs.declared.limit_lines.TheConstants.{LIMITS}
use Rattle.trace_lines.specs.LimitLemmas.{Steps, limit_steps}
use Rattle.trace_lines.specs.Limits.{LimitFits, stated_line, lines_of, limit_lines, limit_words, limit_text, limits_text}
use Rattle.trace_lines.specs.Profiles.{profile_with}
use Rattle.trace_lines.specs.WrittenProfiles.{adapter_words, output_words, point_words, description_words, object_words, objects_text, ids_words, ids_text, heartbeat_words, config_text, description_text, profile_text}
use Rattle.trace_text.specs.declared.builder.ProfileFront.{ProfileFront}
use Rattle.trace_text.specs.declared.builder.TraceBuilder.{TraceBuilder}
use Rattle.trace_text.specs.declared.builder.TraceBuilder.TheVariants.{Empty, Points, Configured, Stated, Objects, Counted, Events}
use Rattle.trace_text.specs.declared.forms.TraceLine.TheVariants as line
use Rattle.trace_text.specs.Forms.{line_reader}
use Rattle.trace_text.specs.Reading.{front_of, with_stated, with_object, with_profile, builder_with}
use Rattle.trace_laws.specs.TraceBack.{OutputFits, InputFits, DescriptionFits, ClassFits, IdsFit, ProfileFits}
use Rattle.trace_laws.proofs.WordLaws.{number_back, node_back, bytes_back, action_back}
use Rattle.trace_laws.proofs.CleanWords.{decimal_clean, node_clean, bytes_clean}
use Rattle.trace_laws.proofs.LineLaws.{is_clean, are_clean}
use Rattle.trace_laws.proofs.TextLaws.{first_of, rest_of, Reads, reads_none, reads_both, reads_as, line_reads}

pub n8 : (n : ℕ) → n < 2 ^ 8 → number_of 8 (decimal n) ≡ Some n
n8 n fits = number_back 8 n fits (omega (arith, fits))

pub n16 : (n : ℕ) → n < 2 ^ 16 → number_of 16 (decimal n) ≡ Some n
n16 n fits = number_back 16 n fits (omega (arith, fits))

pub n32 : (n : ℕ) → n < 2 ^ 32 → number_of 32 (decimal n) ≡ Some n
n32 n fits = number_back 32 n fits (omega (arith, fits))

pub n64 : (n : ℕ) → n < 2 ^ 64 → number_of 64 (decimal n) ≡ Some n
n64 n fits = number_back 64 n fits fits

-- THE LINES

abbrev adapter_line : Profile → AdapterLine
adapter_line profile = record { incarnation = profile.incarnation; node = profile.node; mask = profile.mask; identity = profile.identity }

adapter_read : (profile : Profile) → ProfileFits profile → line_reader (adapter_words profile) ≡ Some (line.Adapter (adapter_line profile), [])
adapter_read profile fits = rw (n8 profile.incarnation fits.incarnation_fits, node_back profile.node fits.node_fits, node_back (record { 0 = profile.mask }) fits.mask_fits, n16 profile.identity.vendor fits.identity_fits.0, n16 profile.identity.device_type fits.identity_fits.1, n16 profile.identity.product fits.identity_fits.2, n8 profile.identity.major fits.identity_fits.3, n8 profile.identity.minor fits.identity_fits.4) refl

output_read : (point : OutputPoint) → OutputFits point → line_reader (output_words point) ≡ Some (line.Output point, [])
output_read point fits = rw (n32 point.instance fits.0, n64 point.len fits.1, action_back point.idle, action_back point.fault) refl

input_read : (point : InputPoint) → InputFits point → line_reader (point_words (codes "input") point) ≡ Some (line.Input point, [])
input_read point fits = rw (n32 point.instance fits.0, n64 point.len fits.1) refl

config_read : (point : InputPoint) → InputFits point → line_reader (point_words (codes "config") point) ≡ Some (line.Config point, [])
config_read point fits = rw (n32 point.instance fits.0, n64 point.len fits.1) refl

description_read : (described : Description) → DescriptionFits described → line_reader (description_words described) ≡ Some (line.Description described, [])
description_read described fits = rw (n32 described.serial fits.serial_fits, bytes_back described.name fits.name_fits, n16 described.port fits.port_fits, n32 described.speed fits.speed_fits, n32 described.flags fits.flags_fit, bytes_back described.mac fits.mac_fits, n16 described.inactivity fits.inactivity_fits) refl

abbrev heartbeat_line : Profile → HeartbeatLine
heartbeat_line profile = record { input_only = profile.input_only; listen_only = profile.listen_only }

heartbeat_read : (profile : Profile) → ProfileFits profile → line_reader (heartbeat_words profile) ≡ Some (line.Heartbeat (heartbeat_line profile), [])
heartbeat_read profile fits = rw (n32 profile.input_only fits.input_only_fits, n32 profile.listen_only fits.listen_only_fits) refl

pub ids_read : (block : IdBlock) → IdsFit block → line_reader (ids_words block) ≡ Some (line.Event (event.Ids block), [])
ids_read block fits = rw (n32 block.first fits.0, n32 block.count fits.1) refl

object_read : (class : ℕ) → ClassFits class → line_reader (object_words class) ≡ Some (line.Object class, [])
object_read class fits = rw (n32 class fits) refl

-- CLEAN WORDS

pub c8 : (n : ℕ) → n < 2 ^ 8 → is_clean (decimal n) ≡ true
c8 n fits = decimal_clean n (omega (arith, fits))

pub c16 : (n : ℕ) → n < 2 ^ 16 → is_clean (decimal n) ≡ true
c16 n fits = decimal_clean n (omega (arith, fits))

pub c32 : (n : ℕ) → n < 2 ^ 32 → is_clean (decimal n) ≡ true
c32 n fits = decimal_clean n (omega (arith, fits))

pub ids_clean : (block : IdBlock) → IdsFit block → are_clean (decimal block.first ∷ decimal block.count ∷ []) ≡ true
ids_clean block fits = rw (c32 block.first fits.0, c32 block.count fits.1) refl

action_clean : (action : Action) → is_clean (action_word action) ≡ true
action_clean Zero = refl
action_clean Hold = refl

-- the words of a description behind its keyword
abbrev behind_describe : Description → List (List ℕ)
behind_describe described = drop 1 (description_words described)

description_clean : (described : Description) → DescriptionFits described → are_clean (behind_describe described) ≡ true
description_clean described fits = rw (c32 described.serial fits.serial_fits, bytes_clean described.name fits.name_fits, c16 described.port fits.port_fits, c32 described.speed fits.speed_fits, c32 described.flags fits.flags_fit, bytes_clean described.mac fits.mac_fits, c16 described.inactivity fits.inactivity_fits) refl

-- ONE AFTER THE OTHER

outputs_read : (adapter : AdapterLine) (before points : List OutputPoint) → All OutputFits points → Reads (Points adapter before []) (flat_map (λ point. line_text (output_words point)) points) (Points adapter (before ++ points) [])
outputs_read adapter before [] fit = subst (λ all. Reads (Points adapter before []) [] (Points adapter all [])) (sym (append-nil before)) (reads_none (Points adapter before []))
outputs_read adapter before (point ∷ points) fit =
    let fits : OutputFits point = first_of OutputFits point points fit in
    let clean : are_clean (decimal point.instance ∷ decimal point.len ∷ action_word point.idle ∷ action_word point.fault ∷ []) ≡ true = rw (c32 point.instance fits.0, decimal_clean point.len fits.1, action_clean point.idle, action_clean point.fault) refl in
    let one : Reads (Points adapter before []) (line_text (output_words point)) (Points adapter (before ++ point ∷ []) []) = line_reads _ _ (codes "output") (decimal point.instance ∷ decimal point.len ∷ action_word point.idle ∷ action_word point.fault ∷ []) (line.Output point) refl refl clean (output_read point fits) refl in
    let more : Reads (Points adapter (before ++ point ∷ []) []) (flat_map (λ p. line_text (output_words p)) points) (Points adapter (before ++ point ∷ points) []) = subst (λ all. Reads (Points adapter (before ++ point ∷ []) []) (flat_map (λ p. line_text (output_words p)) points) (Points adapter all [])) (append_assoc before (point ∷ []) points) (outputs_read adapter (before ++ point ∷ []) points (rest_of OutputFits point points fit)) in
    reads_both _ _ _ _ _ one more

inputs_read : (adapter : AdapterLine) (outputs : List OutputPoint) (before points : List InputPoint) → All InputFits points → Reads (Points adapter outputs before) (flat_map (λ point. line_text (point_words (codes "input") point)) points) (Points adapter outputs (before ++ points))
inputs_read adapter outputs before [] fit = subst (λ all. Reads (Points adapter outputs before) [] (Points adapter outputs all)) (sym (append-nil before)) (reads_none (Points adapter outputs before))
inputs_read adapter outputs before (point ∷ points) fit =
    let fits : InputFits point = first_of InputFits point points fit in
    let clean : are_clean (decimal point.instance ∷ decimal point.len ∷ []) ≡ true = rw (c32 point.instance fits.0, decimal_clean point.len fits.1) refl in
    let one : Reads (Points adapter outputs before) (line_text (point_words (codes "input") point)) (Points adapter outputs (before ++ point ∷ [])) = line_reads _ _ (codes "input") (decimal point.instance ∷ decimal point.len ∷ []) (line.Input point) refl refl clean (input_read point fits) refl in
    let more : Reads (Points adapter outputs (before ++ point ∷ [])) (flat_map (λ p. line_text (point_words (codes "input") p)) points) (Points adapter outputs (before ++ point ∷ points)) = subst (λ all. Reads (Points adapter outputs (before ++ point ∷ [])) (flat_map (λ p. line_text (point_words (codes "input") p)) points) (Points adapter outputs all)) (append_assoc before (point ∷ []) points) (inputs_read adapter outputs (before ++ point ∷ []) points (rest_of InputFits point points fit)) in
    reads_both _ _ _ _ _ one more

heartbeat_clean : (profile : Profile) → ProfileFits profile → are_clean (decimal profile.input_only ∷ decimal profile.listen_only ∷ []) ≡ true
heartbeat_clean profile fits = rw (c32 profile.input_only fits.input_only_fits, c32 profile.listen_only fits.listen_only_fits) refl

-- what was read behind the configuration, where there is one
abbrev beside : Profile → Option InputPoint → TraceBuilder
beside profile None = Points (adapter_line profile) profile.outputs profile.inputs
beside profile (Some point) = Configured (adapter_line profile) profile.outputs profile.inputs point

settings_read : (profile : Profile) (settings : Option InputPoint) → IfSome settings InputFits → Reads (Points (adapter_line profile) profile.outputs profile.inputs) (config_text settings) (beside profile settings)
settings_read profile None fit = reads_none (Points (adapter_line profile) profile.outputs profile.inputs)
settings_read profile (Some point) fit =
    let clean : are_clean (decimal point.instance ∷ decimal point.len ∷ []) ≡ true = rw (c32 point.instance fit.0, decimal_clean point.len fit.1) refl in
    line_reads _ _ (codes "config") (decimal point.instance ∷ decimal point.len ∷ []) (line.Config point) refl refl clean (config_read point fit) refl

-- what was read up to these limits, and the profile with these classes of the maker's own objects
abbrev front_with : Profile → Option InputPoint → Option Description → MakerLimits → ProfileFront
front_with profile settings described limits = record (front_of (adapter_line profile) profile.outputs profile.inputs settings described) { limits = limits }

abbrev with_counted : Profile → Option InputPoint → Option Description → MakerLimits → List ℕ → Option IdBlock → TraceBuilder
with_counted profile settings described limits objects ids = Events (config.Adapter (profile_with (adapter_line profile) profile.outputs profile.inputs settings described limits objects ids (heartbeat_line profile))) [] None

abbrev with_ends : Profile → Option InputPoint → Option Description → MakerLimits → List ℕ → TraceBuilder
with_ends profile settings described limits objects = with_counted profile settings described limits objects profile.ids

heartbeats_read : (profile : Profile) → ProfileFits profile → (builder : TraceBuilder) (settings : Option InputPoint) (described : Option Description) (limits : MakerLimits) (objects : List ℕ) (ids : Option IdBlock) → builder_with builder (line.Heartbeat (heartbeat_line profile)) ≡ Some (with_counted profile settings described limits objects ids) → Reads builder (line_text (heartbeat_words profile)) (with_counted profile settings described limits objects ids)
heartbeats_read profile fits builder settings described limits objects ids built =
    line_reads builder (with_counted profile settings described limits objects ids) (codes "heartbeat") (decimal profile.input_only ∷ decimal profile.listen_only ∷ []) (line.Heartbeat (heartbeat_line profile)) refl refl (heartbeat_clean profile fits) (heartbeat_read profile fits) built

-- BLOCKS OF CONNECTION IDS

pub ids_reads : (builder builder' : TraceBuilder) (block : IdBlock) → IdsFit block → builder_with builder (line.Event (event.Ids block)) ≡ Some builder' → Reads builder (line_text (ids_words block)) builder'
ids_reads builder builder' block fits built = line_reads builder builder' (codes "ids") (decimal block.first ∷ decimal block.count ∷ []) (line.Event (event.Ids block)) refl refl (ids_clean block fits) (ids_read block fits) built

-- the block of connection ids, if it is stated, and the points without data
abbrev last_text : Profile → List ℕ
last_text profile = ids_text profile.ids ++ line_text (heartbeat_words profile)

-- what was read goes on behind these classes of own objects
record Ends (profile : Profile) (settings : Option InputPoint) (described : Option Description) (limits : MakerLimits) (objects : List ℕ) (builder : TraceBuilder) : Type 0 where
  points : (points : HeartbeatLine) → builder_with builder (line.Heartbeat points) ≡ with_profile (front_with profile settings described limits) objects None points
  ids : (block : IdBlock) → builder_with builder (line.Event (event.Ids block)) ≡ Some (Counted (front_with profile settings described limits) objects block)

ids_end : (profile : Profile) → ProfileFits profile → (builder : TraceBuilder) (settings : Option InputPoint) (described : Option Description) (limits : MakerLimits) (objects : List ℕ) (ids : Option IdBlock) → IfSome ids IdsFit → Ends profile settings described limits objects builder → Reads builder (ids_text ids ++ line_text (heartbeat_words profile)) (with_counted profile settings described limits objects ids)
ids_end profile fits builder settings described limits objects None fit end = heartbeats_read profile fits builder settings described limits objects None (end.points (heartbeat_line profile))
ids_end profile fits builder settings described limits objects (Some block) fit end =
    reads_both builder (Counted (front_with profile settings described limits) objects block) (with_counted profile settings described limits objects (Some block)) (line_text (ids_words block)) (line_text (heartbeat_words profile))
    (ids_reads builder (Counted (front_with profile settings described limits) objects block) block fit (end.ids block))
    (heartbeats_read profile fits (Counted (front_with profile settings described limits) objects block) settings described limits objects (Some block) refl)

last_read : (profile : Profile) → ProfileFits profile → (builder : TraceBuilder) (settings : Option InputPoint) (described : Option Description) (limits : MakerLimits) (objects : List ℕ) → Ends profile settings described limits objects builder → Reads builder (last_text profile) (with_ends profile settings described limits objects)
last_read profile fits builder settings described limits objects end = ids_end profile fits builder settings described limits objects profile.ids fits.ids_fit end

-- CLASSES OF OWN OBJECTS

object_reads : (builder builder' : TraceBuilder) (class : ℕ) → ClassFits class → builder_with builder (line.Object class) ≡ Some builder' → Reads builder (line_text (object_words class)) builder'
object_reads builder builder' class fits built = line_reads builder builder' (codes "object") (decimal class ∷ []) (line.Object class) refl refl (rw (c32 class fits) refl) (object_read class fits) built

module _ (profile : Profile) (fits : ProfileFits profile) (settings : Option InputPoint) (described : Option Description) (limits : MakerLimits) where
  abbrev classed : List ℕ → TraceBuilder
  classed objects = Objects (front_with profile settings described limits) objects

  abbrev ended_with : List ℕ → TraceBuilder
  ended_with objects = with_ends profile settings described limits objects

  -- the line of one class, and what is behind it
  one_class : (builder next ended : TraceBuilder) (class : ℕ) (more : List ℕ) → ClassFits class → builder_with builder (line.Object class) ≡ Some next → Reads next (objects_text more ++ last_text profile) ended → Reads builder (objects_text (class ∷ more) ++ last_text profile) ended
  one_class builder next ended class more fit built rest =
      reads_as builder ended (objects_text (class ∷ more) ++ last_text profile) (line_text (object_words class) ++ (objects_text more ++ last_text profile)) (append_assoc (line_text (object_words class)) (objects_text more) (last_text profile))
      (reads_both builder next ended (line_text (object_words class)) (objects_text more ++ last_text profile) (object_reads builder next class fit built) rest)

  objects_read : (before more : List ℕ) → All ClassFits more → Reads (classed before) (objects_text more ++ last_text profile) (ended_with (before ++ more))
  objects_read before [] fit =
      subst (λ all. Reads (classed before) (last_text profile) (ended_with all)) (sym (append-nil before)) (last_read profile fits (classed before) settings described limits before (record { points = λ points. refl; ids = λ block. refl }))
  objects_read before (class ∷ more) fit =
      subst (λ all. Reads (classed before) (objects_text (class ∷ more) ++ last_text profile) (ended_with all)) (append_assoc before (class ∷ []) more)
      (one_class (classed before) (classed (before ++ class ∷ [])) (ended_with ((before ++ class ∷ []) ++ more)) class more (first_of ClassFits class more fit) refl (objects_read (before ++ class ∷ []) more (rest_of ClassFits class more fit)))

-- LIMITS

abbrev places_with : (owners readers listeners : ℕ) → Option ℕ → LimitLine
places_with owners readers listeners class3_connections = limit.Places (record { owners = owners; readers = readers; listeners = listeners; class3_connections = class3_connections })

abbrev node_with : ℕ → Option ℕ → LimitLine
node_with connections openings = limit.NodeConnections (record { connections = connections; openings = openings })

-- a line is read as itself where it is allowed
abbrev IsReadBack : TraceBuilder → TraceBuilder → LimitLine → Type 0
IsReadBack builder builder' given = LimitFits given → builder_with builder (line.Limit given) ≡ Some builder' → Reads builder (line_text (limit_words given)) builder'

places_read : (builder builder' : TraceBuilder) (owners readers listeners : ℕ) (class3_connections : Option ℕ) → IsReadBack builder builder' (places_with owners readers listeners class3_connections)
places_read builder builder' owners readers listeners None fits built = line_reads builder builder' (codes "places") (decimal owners ∷ decimal readers ∷ decimal listeners ∷ []) (line.Limit (places_with owners readers listeners None)) refl refl (rw (c8 owners fits.0, c8 readers fits.1, c8 listeners fits.2) refl) (rw (n8 owners fits.0, n8 readers fits.1, n8 listeners fits.2) refl) built
places_read builder builder' owners readers listeners (Some number) fits built = line_reads builder builder' (codes "places") (decimal owners ∷ decimal readers ∷ decimal listeners ∷ decimal number ∷ []) (line.Limit (places_with owners readers listeners (Some number))) refl refl (rw (c8 owners fits.0, c8 readers fits.1, c8 listeners fits.2, c8 number fits.3) refl) (rw (n8 owners fits.0, n8 readers fits.1, n8 listeners fits.2, n8 number fits.3) refl) built

node_read : (builder builder' : TraceBuilder) (connections : ℕ) (openings : Option ℕ) → IsReadBack builder builder' (node_with connections openings)
unfolding openings_of
node_read builder builder' connections None fits built = line_reads builder builder' (codes "node-connections") (decimal connections ∷ []) (line.Limit (node_with connections None)) refl refl (rw (c8 connections fits.0) refl) (rw (n8 connections fits.0) refl) built
node_read builder builder' connections (Some number) fits built = line_reads builder builder' (codes "node-connections") (decimal connections ∷ codes "openings" ∷ decimal number ∷ []) (line.Limit (node_with connections (Some number))) refl refl (rw (c8 connections fits.0, c16 number fits.1) refl) (rw (n8 connections fits.0, n16 number fits.1) refl) built

pub limit_reads : (builder builder' : TraceBuilder) (given : LimitLine) → IsReadBack builder builder' given
unfolding closers_of
limit_reads builder builder' (limit.LeastRpi us) fits built = line_reads builder builder' (codes "least-rpi") (decimal us ∷ []) (line.Limit (limit.LeastRpi us)) refl refl (rw (c32 us fits) refl) (rw (n32 us fits) refl) built
limit_reads builder builder' (limit.Places places) fits built = places_read builder builder' places.owners places.readers places.listeners places.class3_connections fits built
limit_reads builder builder' (limit.NodeConnections node) fits built = node_read builder builder' node.connections node.openings fits built
limit_reads builder builder' limit.OwnClosers fits built = line_reads builder builder' (codes "closers") (codes "own" ∷ []) (line.Limit limit.OwnClosers) refl refl refl refl built
limit_reads builder builder' (limit.Newer within) fits built = line_reads builder builder' (codes "newer") (decimal within ∷ []) (line.Limit (limit.Newer within)) refl refl (rw (c32 within fits) refl) (rw (n32 within fits) refl) built

-- what was read goes on as one with these limits does
abbrev GoesOn : Profile → Option InputPoint → Option Description → MakerLimits → TraceBuilder → Type 0
GoesOn profile settings described limits builder =
    ((given : LimitLine) → builder_with builder (line.Limit given) ≡ with_stated (front_with profile settings described limits) given)
    × ((points : HeartbeatLine) → builder_with builder (line.Heartbeat points) ≡ with_profile (front_with profile settings described limits) [] None points)
    × ((class : ℕ) → builder_with builder (line.Object class) ≡ with_object (front_with profile settings described limits) [] class)
    × ((block : IdBlock) → builder_with builder (line.Event (event.Ids block)) ≡ Some (Counted (front_with profile settings described limits) [] block))

-- the classes of own objects and the points without data, behind limits
behind_limits : (profile : Profile) → ProfileFits profile → (builder : TraceBuilder) (settings : Option InputPoint) (described : Option Description) (limits : MakerLimits) (objects : List ℕ) → GoesOn profile settings described limits builder → All ClassFits objects → Reads builder (objects_text objects ++ last_text profile) (with_ends profile settings described limits objects)
behind_limits profile fits builder settings described limits [] on fit = last_read profile fits builder settings described limits [] (record { points = on.1; ids = on.3 })
behind_limits profile fits builder settings described limits (class ∷ more) on fit =
    one_class profile fits settings described limits builder (Objects (front_with profile settings described limits) (class ∷ [])) (with_ends profile settings described limits (class ∷ more)) class more (first_of ClassFits class more fit) (on.2 class)
    (objects_read profile fits settings described limits (class ∷ []) more (rest_of ClassFits class more fit))

-- the text of these lines
abbrev lines_text : List LimitLine → List ℕ
lines_text lines = flat_map (λ line. line_text (limit_words line)) lines

one_text : (line : Option LimitLine) (text : List ℕ) (lines : List LimitLine) → text ≡ lines_text lines → limit_text line ++ text ≡ lines_text (option_to_list line ++ lines)
one_text None text lines is = is
one_text (Some line) text lines is = ap (λ t. line_text (limit_words line) ++ t) is

texts_are : (limits : MakerLimits) (rows : List LimitName) → flat_map (λ row. limit_text (stated_line limits row)) rows ≡ lines_text (lines_of limits rows)
texts_are limits [] = refl
texts_are limits (row ∷ rows) = one_text (stated_line limits row) _ (lines_of limits rows) (texts_are limits rows)

module _ (profile : Profile) (fits : ProfileFits profile) (settings : Option InputPoint) (described : Option Description) (objects : List ℕ) (objects_fit : All ClassFits objects) where
  abbrev last_lines : List ℕ
  last_lines = objects_text objects ++ last_text profile

  -- the lines of limits that lead to these limits, the own classes and the points without data
  limits_read : (builder : TraceBuilder) (limits end : MakerLimits) (lines : List LimitLine) → GoesOn profile settings described limits builder → Steps limits lines end → All LimitFits lines → Reads builder (lines_text lines ++ last_lines) (with_ends profile settings described end objects)
  limits_read builder limits end [] on is fit =
      subst (λ to. Reads builder last_lines (with_ends profile settings described to objects)) is (behind_limits profile fits builder settings described limits objects on objects_fit)
  limits_read builder limits end (given ∷ lines) on (next, (is, more)) fit =
      let next_builder : TraceBuilder = Stated (front_with profile settings described next) in
      let built : builder_with builder (line.Limit given) ≡ Some next_builder = on.0 given ∙ ap (option_map (λ to. Stated (front_with profile settings described to))) is in
      reads_as builder (with_ends profile settings described end objects) (lines_text (given ∷ lines) ++ last_lines) (line_text (limit_words given) ++ (lines_text lines ++ last_lines)) (append_assoc (line_text (limit_words given)) (lines_text lines) last_lines)
      (reads_both builder next_builder (with_ends profile settings described end objects) (line_text (limit_words given)) (lines_text lines ++ last_lines) (limit_reads builder next_builder given (first_of LimitFits given lines fit) built)
      (limits_read next_builder next end lines (λ next_line. refl, λ points. refl, λ class. refl, λ block. refl) more (rest_of LimitFits given lines fit)))

  limits_end : (builder : TraceBuilder) (limits : MakerLimits) → GoesOn profile settings described no_limits builder → All LimitFits (limit_lines limits) → Reads builder (limits_text limits ++ last_lines) (with_ends profile settings described limits objects)
  limits_end builder limits on fit =
      reads_as builder (with_ends profile settings described limits objects) (limits_text limits ++ last_lines) (lines_text (limit_lines limits) ++ last_lines) (ap (λ t. t ++ last_lines) (texts_are limits LIMITS))
      (limits_read builder no_limits limits (limit_lines limits) on (limit_steps limits) fit)

described_lines : (builder builder' : TraceBuilder) (described : Description) → DescriptionFits described → builder_with builder (line.Description described) ≡ Some builder' → Reads builder (line_text (description_words described)) builder'
described_lines builder builder' described fit built =
    line_reads builder builder' (codes "describe") (behind_describe described) (line.Description described) refl refl (description_clean described fit) (description_read described fit) built

-- what was read up to the description
abbrev up_to : Profile → Option InputPoint → Description → TraceBuilder
up_to profile settings described = Stated (front_of (adapter_line profile) profile.outputs profile.inputs settings (Some described))

-- the description, where there is one, the limits, the own classes and the heartbeats
ends_read : (profile : Profile) (settings : Option InputPoint) (described : Option Description) (limits : MakerLimits) (objects : List ℕ) → ProfileFits profile → IfSome described DescriptionFits → All LimitFits (limit_lines limits) → All ClassFits objects → Reads (beside profile settings) (description_text described ++ (limits_text limits ++ (objects_text objects ++ last_text profile))) (with_ends profile settings described limits objects)
ends_read profile None None limits objects fits fit limits_fit objects_fit = limits_end profile fits None None objects objects_fit (beside profile None) limits (λ given. refl, λ points. refl, λ class. refl, λ block. refl) limits_fit
ends_read profile (Some point) None limits objects fits fit limits_fit objects_fit = limits_end profile fits (Some point) None objects objects_fit (beside profile (Some point)) limits (λ given. refl, λ points. refl, λ class. refl, λ block. refl) limits_fit
ends_read profile None (Some described) limits objects fits fit limits_fit objects_fit =
    reads_both _ _ _ _ _ (described_lines (beside profile None) (up_to profile None described) described fit refl)
    (limits_end profile fits None (Some described) objects objects_fit (up_to profile None described) limits (λ given. refl, λ points. refl, λ class. refl, λ block. refl) limits_fit)
ends_read profile (Some point) (Some described) limits objects fits fit limits_fit objects_fit =
    reads_both _ _ _ _ _ (described_lines (beside profile (Some point)) (up_to profile (Some point) described) described fit refl)
    (limits_end profile fits (Some point) (Some described) objects objects_fit (up_to profile (Some point) described) limits (λ given. refl, λ points. refl, λ class. refl, λ block. refl) limits_fit)

-- the words of an adapter behind its keyword
abbrev behind_adapter : Profile → List (List ℕ)
behind_adapter profile = drop 1 (adapter_words profile)

adapter_clean : (profile : Profile) → ProfileFits profile → are_clean (behind_adapter profile) ≡ true
adapter_clean profile fits =
    let identity = fits.identity_fits in
    rw (c8 profile.incarnation fits.incarnation_fits, node_clean profile.node, node_clean (record { 0 = profile.mask }), c16 profile.identity.vendor identity.0, c16 profile.identity.device_type identity.1, c16 profile.identity.product identity.2, c8 profile.identity.major identity.3, c8 profile.identity.minor identity.4) refl

pub profile_read : (profile : Profile) → ProfileFits profile → Reads Empty (profile_text profile) (Events (config.Adapter profile) [] None)
profile_read profile fits =
    let one : Reads Empty (line_text (adapter_words profile)) (Points (adapter_line profile) [] []) = line_reads _ _ (codes "adapter") (behind_adapter profile) (line.Adapter (adapter_line profile)) refl refl (adapter_clean profile fits) (adapter_read profile fits) refl in
    reads_both _ _ _ _ _ one
    (reads_both _ _ _ _ _ (outputs_read (adapter_line profile) [] profile.outputs fits.outputs_fit)
    (reads_both _ _ _ _ _ (inputs_read (adapter_line profile) profile.outputs [] profile.inputs fits.inputs_fit)
    (reads_both _ _ _ _ _ (settings_read profile profile.config fits.config_fits)
    (ends_read profile profile.config profile.description profile.limits profile.objects fits fits.description_fits fits.limits_fit fits.objects_fit))))
