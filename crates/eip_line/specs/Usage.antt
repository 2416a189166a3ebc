-- How the program is used: what standard error gets for a command line that is none of the program's.
use Rattle.std.specs.Prelude.{ℕ, List, codes}

abbrev pub usage_text : List ℕ
usage_text = codes "usage: eip_line step < TRACE\n           makes the device of a trace, steps it by each event of the trace, and prints the outcomes\n       eip_line loop [--tcp PORT] [--udp PORT] [--turns N]\n           runs an adapter and a scanner over sockets of 127.0.0.1, and prints the number of turns\n           --tcp PORT  the adapter's TCP port, 1 to 65534 (44818 if it is left out)\n           --udp PORT  the adapter's UDP port, 1 to 65534 (2222 if it is left out); the scanner's is the next one\n           --turns N   the turns of each device, 1 to 1000000 (1000 if it is left out)\n       eip_line line [--scanners N] [--ticks N]\n           runs an adapter and scanners in threads, and prints settled if what they did is one schedule\n           --scanners N  the scanners, 1 to 8 (2 if it is left out)\n           --ticks N     the milliseconds that pass at each device, 1 to 10000 (100 if it is left out)\n       eip_line --version\n           prints the version\nexample: eip_line step < examples/first_open.trace\nstatus: 0 done; 1 an outcome is not as recorded, or a fault, which standard error names; 2 this text\n"
