use Rattle.std.proofs.Common.{◌≡◌, ◌++◌, map, length}
use Rattle.rule_reader.specs.Words.{seen, toks, words_of}
use Rattle.rule_reader.proofs.tokens.tokens.Given as goal

abbrev pub invariant-loop-word : goal.invariant-loop-word
invariant-loop-word l = map seen l.tokens.items ++ toks l.scanner ≡ words_of l.text

abbrev pub decreases-loop-word : goal.decreases-loop-word
decreases-loop-word l = length l.scanner.left
