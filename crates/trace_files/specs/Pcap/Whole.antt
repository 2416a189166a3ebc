-- The pieces of a capture file, in order, are the whole of it, wherever they are cut.
use Rattle.std.proofs.Common.{◌≡◌, ℕ, List, [], ◌∷◌, ◌++◌, ap, refl, sym, ◌∙◌}
use Rattle.std.proofs.lemmas.List.{append_assoc, append-nil}
use Rattle.trace_text.specs.declared.trace.Trace.{Trace}
use Rattle.trace_text.specs.Reading.{Entry}
use Rattle.trace_files.specs.Pcap.Packets.{file_header}
use Rattle.trace_files.specs.Pcap.Written.{Captured, begun, captured_after, captured_with, piece_of, pieces_of, pcap_text}

-- the pieces of events, and behind them those of further events
pub pieces_join : (captured : Captured) (front rest : List Entry) → pieces_of captured (front ++ rest) ≡ pieces_of captured front ++ pieces_of (captured_after captured front) rest
pieces_join captured [] rest = refl
pieces_join captured (entry ∷ front) rest =
    ap (λ behind. piece_of captured entry ++ behind) (pieces_join (captured_with captured entry) front rest)
    ∙ sym (append_assoc (piece_of captured entry) (pieces_of (captured_with captured entry) front) (pieces_of (captured_after captured (entry ∷ front)) rest))

-- one event more adds its piece, and what is known behind it is known of it alone
pub pieces_grow : (captured : Captured) (front : List Entry) (entry : Entry) → pieces_of captured (front ++ entry ∷ []) ≡ pieces_of captured front ++ piece_of (captured_after captured front) entry
pieces_grow captured [] entry = append-nil (piece_of captured entry)
pieces_grow captured (first ∷ front) entry =
    ap (λ behind. piece_of captured first ++ behind) (pieces_grow (captured_with captured first) front entry)
    ∙ sym (append_assoc (piece_of captured first) (pieces_of (captured_with captured first) front) (piece_of (captured_after captured (first ∷ front)) entry))

-- the header, the packets of the first events and those of the others are the file
pub cut_file : (start : ℕ) (trace : Trace) (front rest : List Entry) → trace.events ≡ front ++ rest → pcap_text start trace ≡ file_header ++ (pieces_of (begun start trace.config) front ++ pieces_of (captured_after (begun start trace.config) front) rest)
unfolding pcap_text
cut_file start trace front rest is = rw (is) (ap (λ behind. file_header ++ behind) (pieces_join (begun start trace.config) front rest))
