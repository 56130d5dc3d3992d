-- The words of a text, taken from a scanner one after another.
use Rattle.std.proofs.Common.{◌≡◌, ℕ, List, [], ◌∷◌, ◌++◌, map, ◌∙◌, append_assoc}
use Rattle.word_scan.specs.declared.scanner.Word.{Word}
use Rattle.word_scan.specs.declared.scanner.ScanRefusal.{ScanRefusal}
use Rattle.word_scan.specs.Scan.{Scan}
use Rattle.rule_reader.specs.Words.{Tok, tok_at, bad_end, toks}

go_on : (front : List Tok) (text text2 : List ℕ) (left left2 : List Word) (ending ending2 : ScanRefusal) (word : Word) (t : Tok) (total : List Tok) → left ≡ word ∷ left2 → text2 ≡ text → ending2 ≡ ending → t ≡ tok_at text word
    → front ++ (map (tok_at text) left ++ bad_end ending) ≡ total → (front ++ t ∷ []) ++ (map (tok_at text2) left2 ++ bad_end ending2) ≡ total
go_on front text text2 left left2 ending ending2 word t total first same stays token so_far =
    rw (same, stays, token) (append_assoc front (tok_at text word ∷ []) (map (tok_at text) left2 ++ bad_end ending) ∙ rw first at so_far)

pub tokens_go_on : (front : List Tok) (old new : Scan) (word : Word) (t : Tok) (total : List Tok) → old.left ≡ word ∷ new.left → new.text ≡ old.text → new.ending ≡ old.ending → t ≡ tok_at old.text word
    → front ++ toks old ≡ total → (front ++ t ∷ []) ++ toks new ≡ total
tokens_go_on front old new word t total first same stays token so_far = go_on front old.text new.text old.left new.left old.ending new.ending word t total first same stays token so_far

pub tokens_end : (front : List Tok) (scan : Scan) (ending : ScanRefusal) (total : List Tok) → scan.left ≡ [] → ending ≡ scan.ending → front ++ toks scan ≡ total → front ++ bad_end ending ≡ total
tokens_end front scan ending total none is so_far = rw is (rw none at so_far)
