-- The sections of the classes that a described device has (Volume 1, chapter 7, electronic data sheets: classes).
use Rattle.std.specs.Prelude.{ℕ, Bool, true, false, List, [], ◌++◌, codes, decimal, Option, Some, None}
use Rattle.adapter_table.specs.declared.profile.Description.{Description}
use Rattle.adapter_table.specs.declared.profile.Profile.{Profile}
use Rattle.adapter_table.specs.Own.{is_own_class}

-- the TCP/IP Interface object
unfoldable pub interface_text : List ℕ
interface_text = codes "\n[TCP/IP Interface Class]\n        Revision = 4;\n        Object_Name = \"TCP/IP Interface Object\";\n        Object_Class_Code = 0xF5;\n        MaxInst = 1;\n        Number_Of_Static_Instances = 1;\n        Max_Number_Of_Dynamic_Instances = 0;\n        Class_Attributes = 1,2,3,4,5,6,7;\n        Instance_Attributes = 1,2,3,4,5,6,8,9,10,11,13;\n"

-- the Ethernet Link object, with the speed and the label of its one instance
unfoldable pub link_text : Description → List ℕ
link_text d = codes "\n[Ethernet Link Class]\n        Revision = 4;\n        Object_Name = \"Ethernet Link Object\";\n        Object_Class_Code = 0xF6;\n        MaxInst = 1;\n        Number_Of_Static_Instances = 1;\n        Max_Number_Of_Dynamic_Instances = 0;\n        Class_Attributes = 1,2,3,4,5,6,7;\n        Instance_Attributes = 1,2,3,4,5,6,7,8,9,10,11;\n        InterfaceSpeed1 = " ++ (decimal d.speed ++ codes ";\n        InterfaceLabel1 = \"Ethernet\";\n")

-- the QoS object, unless the maker's own has its class
unfoldable pub qos_text : (own : Bool) → List ℕ
qos_text true = []
qos_text false = codes "\n[QoS Class]\n        Revision = 1;\n        Object_Name = \"QoS Object\";\n        Object_Class_Code = 0x48;\n        MaxInst = 1;\n        Number_Of_Static_Instances = 1;\n        Max_Number_Of_Dynamic_Instances = 0;\n        Class_Attributes = 1,2,3,4,5,6,7;\n        Instance_Attributes = 1,2,3,4,5,6,7,8;\n"

abbrev pub described_text : (own : Bool) → Option Description → List ℕ
described_text own None = []
described_text own (Some d) = interface_text ++ (link_text d ++ qos_text own)

-- the sections of a profile: none without a description
abbrev pub classes_text : Profile → List ℕ
classes_text profile = described_text (is_own_class profile.objects 0x48) profile.description
