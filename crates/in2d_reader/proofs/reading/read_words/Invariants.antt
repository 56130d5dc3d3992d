use Rattle.std.proofs.Common.{◌≡◌, ◌+◌, true, map, length}
use Rattle.word_scan.specs.Bytes.{bytes_of}
use Rattle.word_scan.specs.Scan.{words_of}
use Rattle.in2d_reader.specs.Steps.{steps, nothing_read}
use Rattle.in2d_reader.specs.Drafts.{draft_of, KnowsNumbers}
use Rattle.in2d_reader.proofs.reading.read_words.Given as goal

abbrev pub invariant-loop-word : goal.invariant-loop-word
invariant-loop-word l = (l.scanner.text ≡ l.bytes) × KnowsNumbers l.reader
    × (l.at + length l.scanner.left ≡ length (words_of l.bytes) + 1)
    × (steps true (draft_of l.reader) l.at (map (bytes_of l.bytes) l.scanner.left) ≡ steps true nothing_read 1 (words_of l.bytes))

abbrev pub decreases-loop-word : goal.decreases-loop-word
decreases-loop-word l = length l.scanner.left
