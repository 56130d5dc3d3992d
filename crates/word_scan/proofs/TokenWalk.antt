-- A walk over a text in the tokens style, byte by byte.
use Rattle.std.proofs.Common.{◌≡◌, ◌≢◌, ℕ, zero, suc, ◌+◌, ◌-◌, ◌<◌, ◌≤◌, true, List, [], ◌∷◌, length, get_or, drop, Some, None, refl, sym, ap, ◌∙◌, add-zero, take, arith}
use Rattle.std.proofs.lemmas.List.{at_drop_more, at_drop_all, drop_more, take_all, length-drop}
use Rattle.std.proofs.lemmas.Bool.{ne_eqb}
use Rattle.word_scan.specs.declared.scanner.Kind.{Kind}
use Rattle.word_scan.specs.declared.scanner.ScanRefusal.TheVariants.{End, BadWord}
use Rattle.word_scan.specs.Bytes.{is_white}
use Rattle.word_scan.specs.Scan.{StartsWord}
use Rattle.word_scan.specs.Tokens.{TokenMode, InRemark, Past, token_at, token_word, put_first, given, tokens_from}

pub token_step : (mode : TokenMode) (at i : ℕ) (text : List ℕ) → i < length text → tokens_from mode at i (drop i text) ≡ tokens_from mode at i (get_or text i 0 ∷ drop (i + 1) text)
token_step mode at i text inside = at_drop_more (tokens_from mode at i) text i 0 inside

pub token_walk_end : (mode : TokenMode) (at i : ℕ) (text : List ℕ) → length text ≤ i → tokens_from mode at i (drop i text) ≡ tokens_from mode at i []
token_walk_end mode at i text past = at_drop_all (tokens_from mode at i) text i past

pub remark_goes_on : (at i : ℕ) (text : List ℕ) → i < length text → get_or text i 0 ≢ 10 → tokens_from InRemark at i (drop i text) ≡ tokens_from InRemark at (i + 1) (drop (i + 1) text)
unfolding tokens_from
remark_goes_on at i text inside other = token_step InRemark at i text inside ∙ rw (ne_eqb _ _ other) refl

remark_ends : (at i : ℕ) (text : List ℕ) → i < length text → get_or text i 0 ≡ 10 → tokens_from InRemark at i (drop i text) ≡ tokens_from (Past 0) at (i + 1) (drop (i + 1) text)
unfolding tokens_from
remark_ends at i text inside feed = token_step InRemark at i text inside ∙ rw feed refl

pub space_is_passed : (at i : ℕ) (text : List ℕ) → i < length text → is_white (get_or text i 0) ≡ true → tokens_from (Past 0) at i (drop i text) ≡ tokens_from (Past 0) at (i + 1) (drop (i + 1) text)
unfolding tokens_from
space_is_passed at i text inside white = token_step (Past 0) at i text inside ∙ rw white refl

pub remark_begins : (at i : ℕ) (text : List ℕ) → i < length text → get_or text i 0 ≡ 35 → tokens_from (Past 0) at i (drop i text) ≡ tokens_from InRemark at (i + 1) (drop (i + 1) text)
unfolding tokens_from
remark_begins at i text inside mark = token_step (Past 0) at i text inside ∙ rw mark refl

-- a comment ends at a line feed, which is white space, or at the end of the text
pub remark_stops : (at i : ℕ) (text : List ℕ) → i < length text → get_or text i 0 ≡ 10 → tokens_from InRemark at i (drop i text) ≡ tokens_from (Past 0) at i (drop i text)
remark_stops at i text inside feed = remark_ends at i text inside feed ∙ sym (space_is_passed at i text inside (ap is_white feed))

pub remark_stops_all : (at i : ℕ) (text : List ℕ) → length text ≤ i → tokens_from InRemark at i (drop i text) ≡ tokens_from (Past 0) at i (drop i text)
unfolding tokens_from
remark_stops_all at i text past = token_walk_end InRemark at i text past ∙ sym (token_walk_end (Past 0) at i text past)

-- the bytes of a token are passed
pub token_passed : (n at i : ℕ) (text : List ℕ) → i + n ≤ length text → tokens_from (Past n) at i (drop i text) ≡ tokens_from (Past 0) at (i + n) (drop (i + n) text)
unfolding tokens_from
token_passed zero at i text inside = rw add-zero refl
token_passed (suc n) at i text inside =
    let here : i < length text = omega arith in
    let one : tokens_from (Past (suc n)) at i (drop i text) ≡ tokens_from (Past n) at (i + 1) (drop (i + 1) text) = token_step (Past (suc n)) at i text here in
    let same : i + 1 + n ≡ i + suc n = omega arith in
    one ∙ token_passed n at (i + 1) text (omega arith) ∙ ap (λ k. tokens_from (Past 0) at k (drop k text)) same

-- what is given where a token may begin
pub token_begins : (at i : ℕ) (text : List ℕ) → i < length text → StartsWord (drop i text) → tokens_from (Past 0) at i (drop i text) ≡ given at i (token_at (drop i text)) (λ n. tokens_from (Past n) (at + 1) (i + 1) (drop (i + 1) text))
unfolding tokens_from
token_begins at i text inside starts =
    let here = drop_more text i 0 inside in
    let first : StartsWord (get_or text i 0 ∷ drop (i + 1) text) = rw here at starts in
    let opened : tokens_from (Past 0) at i (get_or text i 0 ∷ drop (i + 1) text) ≡ given at i (token_at (get_or text i 0 ∷ drop (i + 1) text)) (λ n. tokens_from (Past n) (at + 1) (i + 1) (drop (i + 1) text)) = rw (first.0, ne_eqb _ _ first.1) refl in
    token_step (Past 0) at i text inside ∙ opened ∙ ap (λ bytes. given at i (token_at bytes) (λ n. tokens_from (Past n) (at + 1) (i + 1) (drop (i + 1) text))) (sym here)

pub token_is_given : (at i : ℕ) (text : List ℕ) (kind : Kind) (len : ℕ) → i < length text → StartsWord (drop i text) → token_at (drop i text) ≡ Some (kind, len) → 0 < len → i + len ≤ length text → tokens_from (Past 0) at i (drop i text) ≡ put_first (token_word at i (kind, len)) (tokens_from (Past 0) (at + 1) (i + len) (drop (i + len) text))
token_is_given at i text kind len inside starts found some within =
    let passed = token_passed (len - 1) (at + 1) (i + 1) text (omega arith) in
    let place : i + 1 + (len - 1) ≡ i + len = omega arith in
    token_begins at i text inside starts ∙ rw found (ap (put_first (token_word at i (kind, len))) (passed ∙ ap (λ k. tokens_from (Past 0) (at + 1) k (drop k text)) place))

pub no_token_is_given : (at i : ℕ) (text : List ℕ) → i < length text → StartsWord (drop i text) → token_at (drop i text) ≡ None → tokens_from (Past 0) at i (drop i text) ≡ ([], BadWord at)
no_token_is_given at i text inside starts found = token_begins at i text inside starts ∙ rw found refl

-- nothing comes at the end
pub nothing_comes : (at i : ℕ) (text : List ℕ) → length text ≤ i → tokens_from (Past 0) at i (drop i text) ≡ ([], End)
unfolding tokens_from
nothing_comes at i text past = token_walk_end (Past 0) at i text past

-- a slice that reaches to the end has all that is left
pub rest_is : (i : ℕ) (text : List ℕ) → take (length text - i) (drop i text) ≡ drop i text
rest_is i text = take_all (length text - i) (drop i text) (omega (arith, length-drop i text))
