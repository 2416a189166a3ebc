-- The section of the assemblies (Volume 1, chapter 7, electronic data sheets: Assembly).
--
-- The fields of an assembly are: name; path; bytes; descriptor; two that are empty; bits and reference of its one member, empty
-- as well, since it is the whole point. The members of a described device's configuration are its words, each a parameter.
use Rattle.std.specs.Prelude.{ℕ, zero, suc, ◌+◌, List, [], ◌++◌, codes, decimal, flat_map, Option, Some, None}
use Rattle.adapter_table.specs.declared.profile.OutputPoint.{OutputPoint}
use Rattle.adapter_table.specs.declared.profile.InputPoint.{InputPoint}
use Rattle.adapter_table.specs.declared.profile.Profile.{Profile}
use Rattle.eds_text.specs.Offer.{words_of}

-- a point of so many bytes, before its members
unfoldable pub point_head : (word : List ℕ) → (instance len : ℕ) → List ℕ
point_head word instance len =
    codes "        Assem" ++ (decimal instance ++ (codes " =\n                \"" ++ (word ++ (codes " " ++ (decimal instance
    ++ (codes "\",\n                ,\n                " ++ (decimal len ++ codes ",\n                0x0000,\n                ,,\n")))))))

-- with its one member
unfoldable pub point_text : (word : List ℕ) → (instance len : ℕ) → List ℕ
point_text word instance len = point_head word instance len ++ codes "                ,;\n"

-- the parameter of the word of this place: the first one is the packet interval
abbrev pub word_parameter : ℕ → ℕ
word_parameter place = place + 2

-- a member of 16 bits
unfoldable pub member_text : (place : ℕ) → (behind : List ℕ) → List ℕ
member_text place behind = codes "                16,Param" ++ (decimal (word_parameter place) ++ behind)

-- so many words as the members of an assembly, from a place on; without one its one member is the whole point
abbrev pub members_text : (place count : ℕ) → List ℕ
members_text place zero = codes "                ,;\n"
members_text place (suc zero) = member_text place (codes ";\n")
members_text place (suc (suc count)) = member_text place (codes ",\n") ++ members_text (place + 1) (suc count)

-- the configuration, if there is one, with so many words
unfoldable pub config_text : (words : ℕ) → Option InputPoint → List ℕ
config_text words None = []
config_text words (Some point) = point_head (codes "Configuration") point.instance point.len ++ members_text 0 words

unfoldable pub outputs_text : List OutputPoint → List ℕ
outputs_text outputs = flat_map (λ point. point_text (codes "Output") point.instance point.len) outputs

unfoldable pub inputs_text : List InputPoint → List ℕ
inputs_text inputs = flat_map (λ point. point_text (codes "Input") point.instance point.len) inputs

unfoldable pub head_text : List ℕ
head_text = codes "\n[Assembly]\n        Object_Name = \"Assembly Object\";\n        Object_Class_Code = 0x04;\n"

-- outputs, inputs, configuration
unfoldable pub points_text : Profile → List ℕ
points_text profile =
    head_text
    ++ (outputs_text profile.outputs
    ++ (inputs_text profile.inputs
    ++ config_text (words_of profile.description profile.config) profile.config))
