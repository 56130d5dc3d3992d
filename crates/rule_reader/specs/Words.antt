-- The words of a rule file, and a place in them.
--
-- Tok    a word
-- seen   a token without where its bytes lie
-- State  a place: the words that are left, the indices that the rule has used, the number of the rule
use Rattle.std.specs.Prelude.{ℕ, ◌-◌, nat_lt, if◌then◌else◌, List, [], ◌∷◌, ◌++◌, length, take, drop, map, Option, Some, None}
use Rattle.word_scan.specs.declared.scanner.Kind.{Kind}
use Rattle.word_scan.specs.declared.scanner.Kind.TheVariants as kinds
use Rattle.word_scan.specs.declared.scanner.Word.{Word}
use Rattle.word_scan.specs.declared.scanner.Style.TheVariants.{Tokens}
use Rattle.word_scan.specs.declared.scanner.ScanRefusal.{ScanRefusal}
use Rattle.word_scan.specs.declared.scanner.ScanRefusal.TheVariants.{BadWord, End}
use Rattle.word_scan.specs.Bytes.{bytes_of}
use Rattle.word_scan.specs.Scan.{Scan, scan_from}
use Rattle.rule_reader.specs.declared.tokens.Token.{Token}
use Rattle.rule_reader.specs.declared.tokens.Token.TheVariants.{Mark, Text, Number, Name, Bad}
use Rattle.rule_reader.specs.declared.reader.Use.{Use}
use Rattle.rule_reader.specs.declared.reader.Bound.{Bound}

pub data Tok : Type 0 where
  MarkTok : ℕ → Tok
  -- the bytes between the quotation marks
  TextTok : List ℕ → Tok
  NumberTok : List ℕ → Tok
  NameTok : List ℕ → Tok
  -- what is no token
  BadTok : Tok

abbrev pub seen : Token → Tok
seen (Mark b) = MarkTok b
seen (Text bytes) = TextTok bytes.now
seen (Number bytes) = NumberTok bytes.now
seen (Name bytes) = NameTok bytes.now
seen Bad = BadTok

pub record State : Type 0 where
  pub left : List Tok
  pub uses : List Use
  pub rule : ℕ

abbrev pub head : List Tok → Option Tok
head [] = None
head (t ∷ left) = Some t

abbrev pub rest : List Tok → List Tok
rest [] = []
rest (t ∷ left) = left

-- at the front of these words
abbrev pub at_start : List Tok → State
at_start words = record { left = words; uses = []; rule = 0 }

-- behind the next word
abbrev pub behind : State → State
behind st = record { left = rest st.left; uses = st.uses; rule = st.rule }

-- where so many words were left, this index was used
abbrev pub noted : Bound → ℕ → ℕ → State → State
noted bound index left st = record {
  left = st.left;
  uses = st.uses ++ record { left = left; index = index; bound = bound } ∷ [];
  rule = st.rule;
}

-- at the beginning of the rule of this number
abbrev pub begun : ℕ → State → State
begun rule st = record { left = st.left; uses = []; rule = rule }

-- the word of a kind with these bytes
abbrev pub tok_from : Kind → List ℕ → Tok
tok_from kinds.Mark [] = BadTok
tok_from kinds.Mark (b ∷ bytes) = MarkTok b
tok_from kinds.Text bytes = if nat_lt (length bytes) 2 then BadTok
    else TextTok (take (length bytes - 2) (drop 1 bytes))
tok_from kinds.Number bytes = NumberTok bytes
tok_from kinds.Name bytes = NameTok bytes
tok_from kinds.Plain bytes = BadTok

abbrev pub tok_at : List ℕ → Word → Tok
tok_at text word = tok_from word.kind (bytes_of text word)

-- what is no token counts as a word
abbrev pub bad_end : ScanRefusal → List Tok
bad_end (BadWord at) = BadTok ∷ []
bad_end End = []

-- the words that a scanner still gives
abbrev pub toks : Scan → List Tok
toks scan = map (tok_at scan.text) scan.left ++ bad_end scan.ending

-- the words of a text, up to the first place where no token stands
abbrev pub words_of : List ℕ → List Tok
words_of text = toks (scan_from Tokens text 0 1)
