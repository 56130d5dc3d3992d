-- The words of a log.
--
-- fixed    this word
-- number   a whole number in a range
-- signed   a whole number in a range, with a `-` before it where it is below 0
-- point    the number of one of so many points
-- limit    a whole number, or `-`
-- ended    how a run ended, as a word
-- others   whether another domain's run follows
use Rattle.std.specs.Prelude.{ℕ, Bool, true, false, ◌==◌, nat_le, if◌then◌else◌, [], ◌∷◌, Option, Some, None, ℤ, pos, neg_ℤ, codes}
use Rattle.std.specs.Str.{bytes_eq}
use Rattle.mesh_run.specs.declared.End.{End}
use Rattle.mesh_run.specs.declared.End.TheVariants.{Done, Stuck, Stopped}
use Rattle.word_scan.specs.Numerals.{whole_of}
use Rattle.run_log.specs.declared.refusal.LogRefusal.{LogRefusal}
use Rattle.run_log.specs.declared.refusal.LogRefusal.TheVariants.{Syntax, Number, BadIndex}
use Rattle.run_log.specs.Form.{Word, Need, Form, Says, Wants}

-- the greatest number of thirteen digits
abbrev pub greatest_whole : ℕ
greatest_whole = 9999999999999

-- the whole number that a word writes, from `least` to `greatest`
abbrev pub from_least : ℕ → Option ℕ → Option ℕ
from_least least None = None
from_least least (Some n) = if nat_le least n then Some n else None

abbrev pub whole_in : ℕ → ℕ → Word → Option ℕ
whole_in least greatest word = from_least least (whole_of word greatest)

abbrev pub positive : Option ℕ → Option ℤ
positive None = None
positive (Some n) = Some (pos n)

abbrev pub negative : Option ℕ → Option ℤ
negative None = None
negative (Some n) = Some (neg_ℤ (pos n))

-- from `-least` to `greatest`
abbrev pub signed_in : ℕ → ℕ → Word → Option ℤ
signed_in least greatest [] = None
signed_in least greatest (b ∷ word) = if b == 45 then negative (whole_of word least)
    else positive (whole_of (b ∷ word) greatest)

abbrev pub given : Option ℕ → Option (Option ℕ)
given None = None
given (Some n) = Some (Some n)

abbrev pub limit_of : Word → Option (Option ℕ)
limit_of word = if bytes_eq word (codes "-") then Some None
    else given (whole_of word 1000000000000)

abbrev pub end_of : Word → Option End
end_of word = if bytes_eq word (codes "done") then Some Done
    else if bytes_eq word (codes "stuck") then Some Stuck
    else if bytes_eq word (codes "stopped") then Some Stopped
    else None

abbrev pub others_of : Word → Option Bool
others_of word = if bytes_eq word (codes "domain") then Some true
    else if bytes_eq word (codes "end") then Some false
    else None

-- a whole number that is no number of a point is refused as such
abbrev pub no_point : Option ℕ → ℕ → LogRefusal
no_point None at = Number at
no_point (Some n) at = BadIndex at

-- ---- one word each

unfoldable pub fixed_need : Word → Need (Unit {0})
fixed_need text = record {
  says = λ word. if bytes_eq word text then Some tt else None;
  refusal = λ at word. Syntax at;
}

unfoldable pub number_need : ℕ → ℕ → Need ℕ
number_need least greatest = record {
  says = whole_in least greatest;
  refusal = λ at word. Number at;
}

unfoldable pub signed_need : ℕ → ℕ → Need ℤ
signed_need least greatest = record {
  says = signed_in least greatest;
  refusal = λ at word. Number at;
}

unfoldable pub point_need : ℕ → Need ℕ
point_need points = record {
  says = whole_in 1 points;
  refusal = λ at word. no_point (whole_of word greatest_whole) at;
}

unfoldable pub limit_need : Need (Option ℕ)
limit_need = record { says = limit_of; refusal = λ at word. Number at }

unfoldable pub end_need : Need End
end_need = record { says = end_of; refusal = λ at word. Syntax at }

unfoldable pub others_need : Need Bool
others_need = record { says = others_of; refusal = λ at word. Syntax at }

abbrev pub word : {V : Type 0} → Need V → Form V
word need = Wants need Says

abbrev pub fixed : Word → Form (Unit {0})
fixed text = word (fixed_need text)

abbrev pub number : ℕ → ℕ → Form ℕ
number least greatest = word (number_need least greatest)

abbrev pub whole : Form ℕ
whole = number 0 greatest_whole

abbrev pub signed : ℕ → ℕ → Form ℤ
signed least greatest = word (signed_need least greatest)

abbrev pub point : ℕ → Form ℕ
point points = word (point_need points)

abbrev pub limit : Form (Option ℕ)
limit = word limit_need

abbrev pub ended : Form End
ended = word end_need

abbrev pub others : Form Bool
others = word others_need
