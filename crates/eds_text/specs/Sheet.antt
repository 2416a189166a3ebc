-- The electronic data sheet of an adapter's profile, section by section (Volume 1, chapter 7, electronic data sheets).
use Rattle.std.specs.Prelude.{ℕ, zero, suc, ◌+◌, List, [], ◌++◌, codes, decimal}
use Rattle.adapter_table.specs.declared.profile.Profile.{Profile}
use Rattle.eds_text.specs.Classes.{classes_text}
use Rattle.eds_text.specs.Connections.{connections_of}
use Rattle.eds_text.specs.Device.{device_text}
use Rattle.eds_text.specs.Manager.{manager_text}
use Rattle.eds_text.specs.Names.{ShownNames, sheet_names}
use Rattle.eds_text.specs.Points.{points_text, word_parameter}
use Rattle.eds_text.specs.Offer.{capacity_of, offered_intervals, words_of}
use Rattle.eds_text.specs.Texts.{file_text, port_text}
use Rattle.eds_text.specs.declared.offer.OfferedIntervals.{OfferedIntervals}
use Rattle.eds_text.specs.declared.offer.SheetCapacity.{SheetCapacity}
use Rattle.eds_text.specs.declared.offer.TheConstants.{LONGEST_DATAGRAM}

-- the requested packet interval: a number of 32 bits (C8), in microseconds. The fields of a parameter are: 0; size and bytes
-- of a path; descriptor; type; bytes; name, unit, help; least, greatest and first value; four numbers of its scale, four of
-- what they are linked to; places behind the point.
unfoldable pub params_text : OfferedIntervals → List ℕ
params_text intervals =
    codes "\n[Params]\n        Param1 =\n                0,\n                ,,\n                0x0000,\n                0xC8,\n                4,\n                \"RPI\",\n                \"microsecond\",\n                \"\",\n                "
    ++ (decimal intervals.least ++ (codes "," ++ (decimal intervals.most ++ (codes "," ++ (decimal intervals.first
    ++ codes ",\n                ,,,,\n                ,,,,\n                ;\n")))))

-- a word of the configuration, of this place: a number of 16 bits (C7) that is 0 at first, as at a fresh device
unfoldable pub word_text : ℕ → List ℕ
word_text place =
    codes "        Param" ++ (decimal (word_parameter place)
    ++ (codes " =\n                0,\n                ,,\n                0x0000,\n                0xC7,\n                2,\n                \"Configuration word "
    ++ (decimal place
    ++ codes "\",\n                \"\",\n                \"\",\n                0,65535,0,\n                ,,,,\n                ,,,,\n                ;\n")))

-- so many of them, from a place on
abbrev pub words_text : (place count : ℕ) → List ℕ
words_text place zero = []
words_text place (suc count) = word_text place ++ words_text (place + 1) count

-- how much the adapter takes of class 1: datagrams of the greatest size in a second; connections; producers of groups; consumers of one
unfoldable pub datagrams_text : SheetCapacity → List ℕ
datagrams_text capacity =
    codes "\n[Capacity]\n        TSpec1 = TxRx, " ++ (decimal LONGEST_DATAGRAM ++ (codes ", " ++ (decimal capacity.rate
    ++ (codes ";\n        MaxIOConnections = " ++ (decimal capacity.connections
    ++ (codes ";\n        MaxIOMcastProducers = " ++ (decimal capacity.producers
    ++ (codes ";\n        MaxConsumersPerMcast = " ++ (decimal capacity.connections ++ codes ";\n")))))))))

-- how many connections of class 3 it takes
unfoldable pub messages_text : ℕ → List ℕ
messages_text messages = codes "        MaxMsgConnections = " ++ (decimal messages ++ codes ";\n")

-- how much the adapter takes
unfoldable pub capacity_text : SheetCapacity → List ℕ
capacity_text capacity = datagrams_text capacity ++ messages_text capacity.messages

-- the data sheet
unfoldable pub sheet_text : ShownNames → Profile → List ℕ
sheet_text names profile =
    file_text
    ++ (device_text (sheet_names names profile.description) profile.identity
    ++ (params_text (offered_intervals profile)
    ++ (words_text 0 (words_of profile.description profile.config)
    ++ (points_text profile
    ++ (manager_text profile.config (connections_of profile)
    ++ (port_text
    ++ (classes_text profile
    ++ capacity_text (capacity_of profile))))))))
