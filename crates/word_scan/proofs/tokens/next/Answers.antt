use Rattle.std.proofs.Common.{◌≡◌, ◌≤◌, length, drop, Some, None, sym, ◌∙◌, arith}
use Rattle.std.proofs.lemmas.List.{length-drop}
use Rattle.word_scan.specs.Tokens.{token_at}
use Rattle.word_scan.proofs.TokenWalk.{nothing_comes, token_is_given, no_token_is_given, rest_is}
use Rattle.word_scan.proofs.tokens.next.Goals as goal

pub returns-then-from-text-clause-refused : goal.returns-then-from-text-clause-refused
returns-then-from-text-clause-refused c = c.gap_end-from.ensures.tokens c.args.at ∙ nothing_comes c.args.at c.gap_end-from.result c.args.text.now (omega arith)

pub returns-in-None-clause-refused : goal.returns-in-None-clause-refused
returns-in-None-clause-refused c =
    let from = c.gap_end-from.result in
    let text = c.args.text.now in
    let none : token_at (drop from text) ≡ None = rw rest_is at (sym c.in-None.ensures.value) in
    c.gap_end-from.ensures.tokens c.args.at ∙ no_token_is_given c.args.at from text (omega arith) c.gap_end-from.ensures.word none

pub returns-in-Some-clause-given : goal.returns-in-Some-clause-given
returns-in-Some-clause-given c =
    let from = c.gap_end-from.result in
    let text = c.args.text.now in
    let len = c.in-Some.len in
    let some : token_at (drop from text) ≡ Some (c.in-Some.kind, len) = rw rest_is at (sym c.in-Some.ensures.value) in
    let within : len ≤ length (drop from text) = rw rest_is at c.in-Some.ensures.inside.1 in
    c.gap_end-from.ensures.tokens c.args.at ∙ token_is_given c.args.at from text c.in-Some.kind len (omega arith) c.gap_end-from.ensures.word some c.in-Some.ensures.inside.0 (omega (arith, within, length-drop from text))
