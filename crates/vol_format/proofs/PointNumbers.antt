-- The first point number that names no point is refused.
use Rattle.std.proofs.Common.{◌≡◌, ℕ, ◌+◌, ◌<◌, ◌≤◌, Bool, true, false, ◌||◌, List, [], ◌∷◌, ◌++◌, length, Result, Ok, Err, ◌==◌, subst, refl, sym, ap, ◌∙◌, arith}
use Rattle.std.specs.Prelude.{nat_lt}
use Rattle.std.specs.List.{AllByRecursion}
use Rattle.std.proofs.lemmas.Bool.{eqb-true, eqb-false, ltb-true, ltb-false}
use Rattle.std.proofs.lemmas.List.{append-nil}
use Rattle.vol_format.specs.declared.Mesh.{Mesh}
use Rattle.vol_format.specs.declared.refusal.VolRefusal.{VolRefusal}
use Rattle.vol_format.specs.declared.refusal.VolRefusal.TheVariants.{BadIndex}
use Rattle.vol_format.specs.Text.{Item, Fixed, Number, Coordinate, Plain, Count, PointNumber, mesh_items, Names, Known}
use Rattle.vol_format.specs.Refusals.{Misnames}
use Rattle.vol_format.specs.Reading.{misnames, walked, known_if}

named_by : (a b : Bool) (n points : ℕ) → (n == 0) ≡ a → nat_lt points n ≡ b → (a || b) ≡ false → (0 < n) × (n ≤ points)
named_by false false n points p q e = let some = eqb-false n 0 p in (omega (arith, some), ltb-false points n q)
named_by false true n points p q e = absurd cc
named_by true b n points p q e = absurd cc

names : (points : ℕ) (item : Item) → misnames points item ≡ false → Names points item
names points (Number PointNumber n) e = named_by (n == 0) (nat_lt points n) n points refl refl e
names points (Number Plain n) e = tt
names points (Number Count n) e = tt
names points (Fixed text) e = tt
names points (Coordinate x) e = tt

unnamed_by : (a b : Bool) (n points : ℕ) → (n == 0) ≡ a → nat_lt points n ≡ b → (a || b) ≡ true → (0 < n) × (n ≤ points) → ⊥
unnamed_by true b n points p q e h = let none = eqb-true n 0 p in absurd (omega (arith, none, h.0))
unnamed_by false true n points p q e h = absurd (omega (arith, ltb-true points n q, h.1))
unnamed_by false false n points p q e h = absurd cc

no_name : (points : ℕ) (item : Item) → misnames points item ≡ true → Names points item → ⊥
no_name points (Number PointNumber n) e h = unnamed_by (n == 0) (nat_lt points n) n points refl refl e h
no_name points (Number Plain n) e h = absurd cc
no_name points (Number Count n) e h = absurd cc
no_name points (Fixed text) e h = absurd cc
no_name points (Coordinate x) e h = absurd cc

-- a test of an item tells whether it names a point
named_false : (b : Bool) (points : ℕ) (item : Item) → misnames points item ≡ b → Names points item → b ≡ false
named_false false points item e h = refl
named_false true points item e h = absurd (no_name points item e h)

named_true : (b : Bool) (points : ℕ) (item : Item) → misnames points item ≡ b → (Names points item → ⊥) → b ≡ true
named_true true points item e h = refl
named_true false points item e h = absurd (h (names points item e))

-- ---- a walk over items

walk_on : (points at : ℕ) (front back : List Item) → AllByRecursion (Names points) front → walked points at (front ++ back) ≡ walked points (at + length front) back
walk_on points at [] back known = ap (λ (n : ℕ). walked points n back) {x = at} {y = at + 0} (omega arith)
walk_on points at (item ∷ front) back known =
    rw (named_false (misnames points item) points item refl known.0) (walk_on points (at + 1) front back known.1 ∙ ap (λ (n : ℕ). walked points n back) {x = at + 1 + length front} {y = at + length (item ∷ front)} (omega arith))

pub misnamed_refused : (m : Mesh) (at : ℕ) → Misnames m at → known_if m (walked (length m.points) 1 (mesh_items m)) ≡ Err (BadIndex at)
misnamed_refused m at mis =
    let n = length m.points in
    let bad : walked n (1 + length mis.front) (mis.item ∷ mis.back) ≡ Err (BadIndex (1 + length mis.front)) = rw (named_true (misnames n mis.item) n mis.item refl mis.unknown) refl in
    let place : 1 + length mis.front ≡ at = omega (arith, mis.place) in
    ap (known_if m) (ap (walked n 1) mis.same ∙ walk_on n 1 mis.front (mis.item ∷ mis.back) mis.known ∙ bad ∙ ap (λ (k : ℕ). Err (BadIndex k)) place)

pub known_passes : (m : Mesh) → Known m → known_if m (walked (length m.points) 1 (mesh_items m)) ≡ Ok m
known_passes m known =
    let n = length m.points in
    ap (known_if m) (ap (walked n 1) (sym (append-nil (mesh_items m))) ∙ walk_on n 1 (mesh_items m) [] known)

-- how a walk ends
data Walk (points at : ℕ) (items : List Item) (r : Result ℕ VolRefusal) : Type 0 where
  All : (end : ℕ) → AllByRecursion (Names points) items → r ≡ Ok end → Walk points at items r
  Bad : (front back : List Item) (item : Item) → items ≡ front ++ (item ∷ back) → AllByRecursion (Names points) front → (Names points item → ⊥) → r ≡ Err (BadIndex (at + length front)) → Walk points at items r

walk_more : (points at : ℕ) (item : Item) (items : List Item) (r : Result ℕ VolRefusal) → Names points item → Walk points (at + 1) items r → Walk points at (item ∷ items) r
walk_more points at item items r h (All end each is) = All end (h, each) is
walk_more points at item items r h (Bad front back bad same each none is) =
    Bad (item ∷ front) back bad (ap (λ (xs : List Item). item ∷ xs) same) (h, each) none (is ∙ ap (λ (n : ℕ). Err (BadIndex n)) {x = at + 1 + length front} {y = at + length (item ∷ front)} (omega arith))

walk_by : (b : Bool) (points at : ℕ) (item : Item) (items : List Item) → misnames points item ≡ b → Walk points (at + 1) items (walked points (at + 1) items) → Walk points at (item ∷ items) (walked points at (item ∷ items))
walk_by true points at item items e rest = Bad [] items item refl tt (no_name points item e) (rw e (ap (λ (n : ℕ). Err (BadIndex n)) {x = at} {y = at + 0} (omega arith)))
walk_by false points at item items e rest =
    let one : walked points (at + 1) items ≡ walked points at (item ∷ items) = rw e refl in
    subst (λ (r : Result ℕ VolRefusal). Walk points at (item ∷ items) r) one (walk_more points at item items (walked points (at + 1) items) (names points item e) rest)

walk : (points at : ℕ) (items : List Item) → Walk points at items (walked points at items)
walk points at [] = All at tt refl
walk points at (item ∷ items) = walk_by (misnames points item) points at item items refl (walk points (at + 1) items)

-- a mesh whose point numbers are walked over is known, or refused at its first that names no point
pub data Checked (m : Mesh) (r : Result Mesh VolRefusal) : Type 0 where
  IsKnown : Known m → r ≡ Ok m → Checked m r
  IsBad : (at : ℕ) → Misnames m at → r ≡ Err (BadIndex at) → Checked m r

checked_by : (m : Mesh) (r : Result ℕ VolRefusal) → Walk (length m.points) 1 (mesh_items m) r → Checked m (known_if m r)
checked_by m r (All end each is) = IsKnown each (ap (known_if m) is)
checked_by m r (Bad front back item same each none is) = IsBad (1 + length front) (record { front = front; item = item; back = back; same = same; place = omega arith; known = each; unknown = none }) (ap (known_if m) is)

pub checked : (m : Mesh) → Checked m (known_if m (walked (length m.points) 1 (mesh_items m)))
checked m = checked_by m (walked (length m.points) 1 (mesh_items m)) (walk (length m.points) 1 (mesh_items m))
