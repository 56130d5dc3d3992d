use Rattle.std.proofs.Common.{length, arith, ap}
use Rattle.std.proofs.lemmas.List.{length-map}
use Rattle.word_scan.specs.Bytes.{bytes_of}
use Rattle.word_scan.specs.Scan.{spaced_words}
use Rattle.word_scan.proofs.Laws.{few_words}
use Rattle.in2d_reader.proofs.reading.read_words.Goals as goal

pub overflow_add-at : goal.overflow_add-at
overflow_add-at c =
    let text = c.args.bytes.now in
    omega (arith, few_words text, length-map (spaced_words text) (bytes_of text), ap length c.in-Ok.ensures.word, c.loop-word.invariant.2)
