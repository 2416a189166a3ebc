-- The data of a Forward_Open and of a Large_Forward_Open (Volume 1, chapter 3, Forward_Open and
-- Large_Forward_Open services).
--
--   place    width      field
--   0, 1     1, 1       priority and time tick, time-out ticks
--   2, 3     4, 4       O->T and T->O connection id
--   4 to 6   2, 2, 4    connection serial number, originator's vendor and serial number
--   7        1          connection timeout multiplier
--   8 to 10  1, 1, 1    reserved
--   11, 12   4, 2 or 4  O->T requested packet interval, connection parameters
--   13, 14   4, 2 or 4  T->O requested packet interval, connection parameters
--   15       1          transport class and trigger
--   16       1          words of the path
--
-- The path follows. Connection parameters have 4 bytes in a Large_Forward_Open.
use Rattle.std.specs.Prelude.{◌≡◌, ℕ, ◌*◌, ◌/◌, ◌≤◌, Bool, if◌then◌else◌, List, [], ◌∷◌, ◌++◌, length, slice_index, Result}
use Rattle.std.specs.Int.{Width, w8, w16, w32}
use Rattle.std.specs.Borrow.{Bor}
use Rattle.cip_types.specs.declared.ConnId.{ConnId}
use Rattle.cip_types.specs.declared.Triad.{Triad}
use Rattle.cip_types.specs.Fields.{fields_text, AreFields}
use Rattle.cip_types.specs.Texts.{IsImage, found_image, Tailed, IsTailedText, tailed_found}
use Rattle.cip_epath.specs.declared.path.ConnPath.{ConnPath}
use Rattle.cip_epath.specs.Path.{view_path}
use Rattle.cip_epath.specs.Written.{path_text}
use Rattle.cip_netparams.specs.declared.NetParams.{NetParams}
use Rattle.cip_netparams.specs.Word.{params16, params32, word16, word32}
use Rattle.cip_fwdopen.specs.declared.fault.ReadFault.{ReadFault}
use Rattle.cip_fwdopen.specs.declared.open.OpenRequest.{OpenRequest}
use Rattle.cip_fwdopen.specs.Readings.{IsReadingOf, answer_of, number}

-- the contents of a request
pub record OpenFields : Type 0 where
  pub priority_tick : ℕ
  pub ticks : ℕ
  pub o_t_id : ConnId
  pub t_o_id : ConnId
  pub triad : Triad
  pub multiplier : ℕ
  pub o_t_rpi : ℕ
  pub o_t_params : NetParams
  pub t_o_rpi : ℕ
  pub t_o_params : NetParams
  pub trigger : ℕ
  pub path : List ℕ

-- the contents of a request of the program, with the text of its path
abbrev pub open_contents : {P : Type 0} → OpenRequest P → List ℕ → OpenFields
open_contents r path = record {
  priority_tick = r.priority_tick;
  ticks = r.ticks;
  o_t_id = r.o_t_id;
  t_o_id = r.t_o_id;
  triad = r.triad;
  multiplier = r.multiplier;
  o_t_rpi = r.o_t_rpi;
  o_t_params = r.o_t_params;
  t_o_rpi = r.t_o_rpi;
  t_o_params = r.t_o_params;
  trigger = r.trigger;
  path = path;
}

-- the contents of a request that was read
abbrev pub view_open : OpenRequest (Bor (List ℕ)) → OpenFields
view_open r = open_contents r r.path.now

-- the contents of a request that is written
abbrev pub sent_open : OpenRequest ConnPath → OpenFields
sent_open r = open_contents r (path_text (view_path r.path))

-- ---- reading

-- the width of a word of connection parameters
abbrev pub params_width : Bool → Width
params_width large = if large then w32 else w16

-- the widths of the fixed part
abbrev pub open_widths : Bool → List Width
open_widths large =
    w8 ∷ w8 ∷ w32 ∷ w32 ∷ w16 ∷ w16 ∷ w32 ∷ w8 ∷ w8 ∷ w8 ∷ w8
    ∷ w32 ∷ params_width large ∷ w32 ∷ params_width large ∷ w8 ∷ w8 ∷ []

-- bytes of the path
abbrev pub path_len : List ℕ → ℕ
path_len numbers = 2 * slice_index numbers 16

-- the connection parameters of a word
abbrev pub params_of : Bool → ℕ → NetParams
params_of large word = if large then params32 word else params16 word

-- the request of a fixed part and a path
abbrev pub open_of : Bool → Tailed → OpenFields
open_of large text = record {
  priority_tick = number text 0;
  ticks = number text 1;
  o_t_id = record { 0 = number text 2 };
  t_o_id = record { 0 = number text 3 };
  triad = record { serial = number text 4; vendor = number text 5; originator = number text 6 };
  multiplier = number text 7;
  o_t_rpi = number text 11;
  o_t_params = params_of large (number text 12);
  t_o_rpi = number text 13;
  t_o_params = params_of large (number text 14);
  trigger = number text 15;
  path = text.1;
}

-- the text is the data of a request: its fixed part, and as many words of path as it states
abbrev pub IsOpenText : Bool → List ℕ → OpenFields → Type 0
IsOpenText large = IsImage (open_of large) (IsTailedText (open_widths large) path_len)

-- the result is a reading of the bytes as the data of a request
abbrev pub IsOpenReading : Bool → List ℕ → Result OpenFields ReadFault → Type 0
IsOpenReading large = IsReadingOf (IsOpenText large)

-- the reading of bytes as the data of a request
unfoldable pub open_reading : Bool → List ℕ → Result OpenFields ReadFault
open_reading large bytes = answer_of (found_image (open_of large) (tailed_found (open_widths large) path_len bytes))

-- ---- writing

-- the word of connection parameters, its spare bits zero
abbrev pub params_word : Bool → NetParams → ℕ
params_word large params = if large then word32 params 0 0 else word16 params 0

-- the greatest size of connection parameters
abbrev pub greatest_size : Bool → ℕ
greatest_size large = if large then 65535 else 511

-- the numbers of the fixed part, reserved bytes zero
abbrev pub open_numbers : Bool → OpenFields → List ℕ
open_numbers large p =
    p.priority_tick ∷ p.ticks ∷ p.o_t_id.0 ∷ p.t_o_id.0 ∷ p.triad.serial ∷ p.triad.vendor ∷ p.triad.originator ∷ p.multiplier ∷ 0 ∷ 0 ∷ 0
    ∷ p.o_t_rpi ∷ params_word large p.o_t_params ∷ p.t_o_rpi ∷ params_word large p.t_o_params ∷ p.trigger ∷ length p.path / 2 ∷ []

-- the written data of a request
unfoldable pub open_text : Bool → OpenFields → List ℕ
open_text large p = fields_text (open_widths large) (open_numbers large p) ++ p.path

-- each part of a request fits its field, and its path is whole words
pub record OpenFits (large : Bool) (p : OpenFields) : Type 0 where
  pub numbers : AreFields (open_widths large) (open_numbers large p)
  pub o_t_size : p.o_t_params.size ≤ greatest_size large
  pub t_o_size : p.t_o_params.size ≤ greatest_size large
  pub words : length p.path ≡ 2 * (length p.path / 2)
