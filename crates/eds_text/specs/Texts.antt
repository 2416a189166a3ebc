-- The parts of a data sheet that are the same of each adapter (Volume 1, chapter 7, electronic data sheets).
--
-- A dollar sign begins a comment. A section begins with its name in brackets. An entry has a keyword, an equals sign,
-- fields with commas between them, and a semicolon. A field may be empty.
use Rattle.std.specs.Prelude.{ℕ, List, codes}

-- the head, and the file: its dates do not depend on a clock
unfoldable pub file_text : List ℕ
file_text = codes "$ Electronic data sheet of an EtherNet/IP adapter\n\n[File]\n        DescText = \"EtherNet/IP adapter\";\n        CreateDate = 01-01-2026;\n        CreateTime = 00:00:00;\n        Revision = 1.0;\n"

-- the port: Ethernet, whose object is the TCP/IP Interface, and whose number is none of a backplane
unfoldable pub port_text : List ℕ
port_text = codes "\n[Port]\n        Object_Name = \"Port Object\";\n        Object_Class_Code = 0xF4;\n        Port1 =\n                TCP,\n                \"EtherNet/IP port\",\n                \"20 F5 24 01\",\n                2;\n"
