-- The grammar of logs.
--
-- place, opening_point, opening_line, element, application, front_line    the lines of a log
-- domain_run, domains    the runs of domains, whose numbers rise
-- log                    a whole log
-- Reads                  these words are a log, and say this
-- Refuses                the first word that can't stand where it stands is refused so
-- one word after another is written by ◌>>=◌ of Form
use Rattle.std.specs.Prelude.{ℕ, zero, suc, ◌+◌, Bool, true, false, List, [], ◌∷◌, ◌++◌, length, codes, unsigned_abs}
use Rattle.std.specs.List.{flat_map}
use Rattle.grid_geom.specs.declared.Point.{Point}
use Rattle.grid_geom.specs.declared.TheConstants.{GRID, LONGEST}
use Rattle.rule_match.specs.declared.application.Application.{Application}
use Rattle.mesh_run.specs.declared.Options.{Options}
use Rattle.mesh_run.specs.declared.domain_run.DomainRun.{DomainRun}
use Rattle.run_log.specs.declared.refusal.LogRefusal.{LogRefusal}
use Rattle.run_log.specs.declared.refusal.LogRefusal.TheVariants.{Syntax, Number, BadIndex, NoState, Memory}
use Rattle.run_log.specs.declared.log.Log.{Log}
use Rattle.run_log.specs.Form.{Word, Form, Says, ◌>>=◌, many, Derives, Stops}
use Rattle.run_log.specs.Numbers.{greatest_whole, fixed, number, whole, signed, point, limit, ended, others}

-- a count from 0 to `most`, and as many of the form
unfoldable pub counted : {A : Type 0} → ℕ → Form A → Form (List A)
counted most form = do
  count ← number 0 most
  many count form

-- the coordinates of a point, on the grid
unfoldable pub place : Form Point
place = do
  x ← signed (unsigned_abs GRID) (unsigned_abs GRID)
  y ← signed (unsigned_abs GRID) (unsigned_abs GRID)
  Says (record { x = x; y = y })

-- p X Y
unfoldable pub opening_point : Form Point
opening_point = do
  p ← fixed (codes "p")
  place

-- l A B, between two of so many points
unfoldable pub opening_line : ℕ → Form (ℕ × ℕ)
opening_line points = do
  l ← fixed (codes "l")
  a ← point points
  b ← point points
  Says (a, b)

-- 3 A B C
unfoldable pub element : ℕ → Form (List ℕ)
element points = do
  three ← number 3 3
  many 3 (point points)

-- a CLASS LINE RULE, the mapped points, the new points and the elements, each list after its length;
-- an element may have the new points as corners
unfoldable pub application : ℕ → Form Application
application points = do
  a ← fixed (codes "a")
  class ← number 1 16
  line ← number 1 greatest_whole
  rule ← number 1 256
  mapped ← counted 16 (point points)
  made ← counted 8 place
  elements ← counted 8 (element (points + length made))
  Says (record {
    class = class;
    line = line;
    rule = rule;
    points = mapped;
    made = made;
    elements = elements;
  })

-- so many applications: the new points of one are points from the next one on
unfoldable pub applications : ℕ → ℕ → Form (List Application)
applications zero points = Says []
applications (suc count) points = do
  first ← application points
  rest ← applications count (points + length first.made)
  Says (first ∷ rest)

-- f LINE A B
unfoldable pub front_line : ℕ → Form (ℕ × ℕ × ℕ)
front_line points = do
  f ← fixed (codes "f")
  line ← number 1 greatest_whole
  a ← point points
  b ← point points
  Says (line, a, b)

-- all points of a run: those at its opening, and the new ones
abbrev pub all_points : List Point → List Application → List Point
all_points opening applications = opening ++ flat_map (λ a. a.made) applications

-- D POINTS LINES APPLICATIONS FRONT END, and what it counts: a domain above the one before it
unfoldable pub domain_run : ℕ → Form DomainRun
domain_run before = do
  domain ← number (before + 1) 64
  points ← whole
  lines ← whole
  applied ← whole
  left ← whole
  end ← ended
  opening ← many points opening_point
  sides ← many lines (opening_line points)
  made ← applications applied points
  front ← many left (front_line (length (all_points opening made)))
  Says (record {
    domain = domain;
    points = all_points opening made;
    opened = points;
    lines = sides;
    applications = made;
    front = front;
    end = end;
  })

-- nothing where no other run follows
abbrev pub if_more : {A : Type 0} → Bool → Form (List A) → Form (List A)
if_more false form = Says []
if_more true form = form

-- the runs of domains above this one, up to the word `end`; numbers rise up to 64, so 65 are room enough
unfoldable pub domains : ℕ → ℕ → Form (List DomainRun)
domains zero before = Says []
domains (suc room) before = do
  more ← others
  if_more more (domain_run before >>= λ run. domains room run.domain >>= λ rest. Says (run ∷ rest))

-- run SHIFT GREATEST GRADING CLASS STEPS
unfoldable pub options : Form Options
options = do
  greatest ← number 1 LONGEST
  grading ← number 0 10000
  last ← number 1 16
  most ← limit
  Says (record { greatest = greatest; grading = grading; last = last; limit = most })

-- netmeshlog 1, the shift and the options, and the runs of domains
unfoldable pub log : Form Log
log = do
  name ← fixed (codes "netmeshlog")
  version ← number 1 1
  run ← fixed (codes "run")
  shift ← signed 6 8
  opts ← options
  runs ← domains 65 0
  Says (record { shift = shift; options = opts; domains = runs })

-- these words are a log, and say this
abbrev pub Reads : List Word → Log → Type 0
Reads words said = Derives log words said

-- the first word that can't stand where it stands is refused so, or a word is missing
abbrev pub Refuses : List Word → LogRefusal → Type 0
Refuses words refusal = Stops log 1 words refusal

-- the number of the word that a refusal names; 0 where it names none
abbrev pub word_of : LogRefusal → ℕ
word_of (Syntax word) = word
word_of (Number word) = word
word_of (BadIndex word) = word
word_of (NoState domain step) = 0
word_of Memory = 0
