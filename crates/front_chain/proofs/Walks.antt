-- The numbers in the table by ends: it has each line's number once, and no other. So it has as many entries as there are lines, as has each list that is a walk.
use Prim.Native.Nat.{ℕ, zero, suc, ◌+◌, ◌-◌, ◌≤◌, ◌<◌}
use lib.ListN.{length}
use mathlib.Core.Path.{◌≡◌, refl, sym, ap, ◌∙◌, subst}
use mathlib.Core.Bool.{Bool, true, false, cond, ◌||◌}
use mathlib.Core.List.{List, [], ◌∷◌, map}
use native.Mathlib.Omega.{arith}
use Rattle.std.specs.Prelude.{nat_eq, is_some, IfSome, IsTrue, slice_get, Option, Some, None}
use Rattle.std.specs.Cmp.{IsEquivalence, nat_eq_equiv}
use Rattle.std.specs.Map.{keys_of, values_of, lookup}
use Rattle.std.specs.Option.{option_map}
use Rattle.std.specs.List.{AllByRecursion, IsDistinct, find, list_any}
use Rattle.std.proofs.lemmas.Map.Entries.{lookup_from_place}
use Rattle.std.proofs.lemmas.Map.Made.{length-from_same_keys}
use Rattle.grid_geom.specs.declared.Point.{Point}
use Rattle.state_law.specs.State.{AreRising}
use Rattle.front_chain.specs.declared.side.Side.{Side}
use Rattle.front_chain.specs.declared.front.Near.{Near}
use Rattle.front_chain.specs.Front.{line_at, IsWalk}
use Rattle.front_chain.specs.Tables.{side_at, lines_from, AreTables}
use Rattle.front_chain.proofs.Lines.{same_side, same_self, same_sound, ends, line_numbered, no_line_zero, lines_rise, no_side, some_side}

-- ---- `==` of sides is an equivalence
turned : (s t : Side) (b c : Bool) → same_side s t ≡ b → same_side t s ≡ c → b ≡ c
turned s t true true e f = refl
turned s t false false e f = refl
turned s t true false e f = absurd (clash (sym (subst (λ (u : Side). same_side u s ≡ true) (same_sound s t e) (same_self s)) ∙ f))
  where
    clash : true ≡ false → ⊥
    clash h = cc
turned s t false true e f = absurd (clash (sym (subst (λ (u : Side). same_side u t ≡ true) (same_sound t s f) (same_self t)) ∙ e))
  where
    clash : true ≡ false → ⊥
    clash h = cc

pub side_laws : IsEquivalence same_side
side_laws = record {
  refl = same_self;
  symm = λ s t. turned s t (same_side s t) (same_side t s) refl refl;
  congr = λ s t u e. ap (λ v. same_side v u) (same_sound s t e);
}

-- ---- entries and places
-- each entry's number is that of a line with the entry's ends
pub record AreEntered (made : List (Option Side)) (es : List (Side × ℕ)) : Type 0 where
  pub entry : (i : ℕ) (s : Side) (n : ℕ) → slice_get es i ≡ Some (s, n) → (1 ≤ n) × (side_at made (n - 1) ≡ Some s)

pub entered : {points : List Point} {leaving : List ℕ} (made : List (Option Side)) (es : List (Side × ℕ)) → AreTables points leaving made (λ s. lookup (same_side s) es) → IsDistinct same_side (keys_of es) → AreEntered made es
entered made es h d = record { entry = λ i s n e. h.kept s n (lookup_from_place side_laws es i s n d e) }

rest_entered : (made : List (Option Side)) (e : Side × ℕ) (es : List (Side × ℕ)) → AreEntered made (e ∷ es) → AreEntered made es
rest_entered made e es h = record { entry = λ i s n k. h.entry (suc i) s n k }

-- a number of the walk is an entry's
walk_entry : (es : List (Side × ℕ)) (n : ℕ) → list_any (nat_eq n) (values_of es) ≡ true → (i : ℕ) × (s : Side) × (slice_get es i ≡ Some (s, n))
walk_entry [] n e = absurd (cc)
walk_entry (f ∷ es) n e = by (nat_eq n f.1) refl e (walk_entry es n)
  where
    same : (m n : ℕ) → nat_eq m n ≡ true → n ≡ m
    same m n e = grind arith

    by : (b : Bool) → nat_eq n f.1 ≡ b → (b || list_any (nat_eq n) (values_of es)) ≡ true → (list_any (nat_eq n) (values_of es) ≡ true → (i : ℕ) × (s : Side) × (slice_get es i ≡ Some (s, n))) → (i : ℕ) × (s : Side) × (slice_get (f ∷ es) i ≡ Some (s, n))
    by true g h rest = (zero, f.0, ap (λ (k : ℕ). Some (f.0, k)) (same n f.1 g))
    by false g h rest = let r = rest h in (suc r.0, r.1, r.2)

-- and an entry's number is of the walk
entry_walk : (es : List (Side × ℕ)) (test : Side → Bool) (n : ℕ) → lookup test es ≡ Some n → list_any (nat_eq n) (values_of es) ≡ true
entry_walk [] test n e = absurd (cc)
entry_walk (f ∷ es) test n e = by (test f.0) e (entry_walk es test n)
  where
    self : (m n : ℕ) → Some m ≡ Some n → nat_eq n m ≡ true
    self m n e = at m n (one m n e)
      where
        one : (m n : ℕ) → Some m ≡ Some n → m ≡ n
        one m n e = cc

        at : (m n : ℕ) → m ≡ n → nat_eq n m ≡ true
        at m n e = grind arith

    or_right : (a b : Bool) → b ≡ true → (a || b) ≡ true
    or_right true b h = refl
    or_right false b h = h

    by : (b : Bool) → cond b (Some f.1) (lookup test es) ≡ Some n → (lookup test es ≡ Some n → list_any (nat_eq n) (values_of es) ≡ true) → (nat_eq n f.1 || list_any (nat_eq n) (values_of es)) ≡ true
    by true g rest = ap (λ c. c || list_any (nat_eq n) (values_of es)) (self f.1 n g)
    by false g rest = or_right (nat_eq n f.1) (list_any (nat_eq n) (values_of es)) (rest g)

-- ---- each line's number once, and no other
each_once : {points : List Point} {leaving : List ℕ} (made : List (Option Side)) (es : List (Side × ℕ)) → AreTables points leaving made (λ s. lookup (same_side s) es) → AreEntered made es →
    (n : ℕ) → list_any (nat_eq n) (values_of es) ≡ is_some (line_at (lines_from 1 made) n)
each_once made es h k zero = by (list_any (nat_eq 0) (values_of es)) refl ∙ sym (ap is_some (no_line_zero made))
  where
    by : (b : Bool) → list_any (nat_eq 0) (values_of es) ≡ b → list_any (nat_eq 0) (values_of es) ≡ false
    by true e = let r = walk_entry es 0 e in absurd (omega (arith, (k.entry r.0 r.1 0 r.2).0))
    by false e = e
each_once made es h k (suc i) = by (side_at made i) refl ∙ sym (ap is_some (line_numbered made (suc i) (omega arith) ∙ ap (λ (m : ℕ). option_map ends (side_at made m)) (less i)))
  where
    less : (i : ℕ) → suc i - 1 ≡ i
    less i = omega arith

    plus : (i : ℕ) → i + 1 ≡ suc i
    plus i = omega arith

    none : (b : Bool) → list_any (nat_eq (suc i)) (values_of es) ≡ b → side_at made i ≡ None → list_any (nat_eq (suc i)) (values_of es) ≡ false
    none true e f = let r = walk_entry es (suc i) e in no_side r.1 (sym f ∙ ap (side_at made) (sym (less i)) ∙ (k.entry r.0 r.1 (suc i) r.2).1)
    none false e f = e

    by : (o : Option Side) → side_at made i ≡ o → list_any (nat_eq (suc i)) (values_of es) ≡ is_some (option_map ends (side_at made i))
    by None f = none (list_any (nat_eq (suc i)) (values_of es)) refl f ∙ sym (ap (λ o. is_some (option_map ends o)) f)
    by (Some s) f = ap (λ (m : ℕ). list_any (nat_eq m) (values_of es)) (sym (plus i)) ∙ entry_walk es (same_side s) (i + 1) (h.found i s f) ∙ sym (ap (λ o. is_some (option_map ends o)) f)

-- no number twice
not_again : (made : List (Option Side)) (s : Side) (n : ℕ) (es : List (Side × ℕ)) → (1 ≤ n) × (side_at made (n - 1) ≡ Some s) → AreEntered made es → AllByRecursion (λ t. same_side s t ≡ false) (keys_of es) → AllByRecursion (λ m. nat_eq n m ≡ false) (values_of es)
not_again made s n [] at k d = tt
not_again made s n (e ∷ es) at k d = (by (nat_eq n e.1) refl, not_again made s n es at (rest_entered made e es k) d.1)
  where
    same : (m n : ℕ) → nat_eq m n ≡ true → n ≡ m
    same m n e = grind arith

    clash : true ≡ false → ⊥
    clash h = cc

    by : (b : Bool) → nat_eq n e.1 ≡ b → b ≡ false
    by true f = absurd (clash (sym (subst (λ (u : Side). same_side s u ≡ true) (some_side s e.0 (sym at.1 ∙ ap (λ (m : ℕ). side_at made (m - 1)) (sym (same n e.1 f)) ∙ (k.entry zero e.0 e.1 refl).1)) (same_self s)) ∙ d.0))
    by false f = refl

no_double : (made : List (Option Side)) (es : List (Side × ℕ)) → AreEntered made es → IsDistinct same_side (keys_of es) → IsDistinct nat_eq (values_of es)
unfolding IsDistinct
no_double made [] k d = tt
no_double made (e ∷ es) k d = (not_again made e.0 e.1 es (k.entry zero e.0 e.1 refl) (rest_entered made e es k) d.0, no_double made es (rest_entered made e es k) d.1)

pub walk_is : {points : List Point} {leaving : List ℕ} (made : List (Option Side)) (es : List (Side × ℕ)) → AreTables points leaving made (λ s. lookup (same_side s) es) → IsDistinct same_side (keys_of es) → IsWalk (values_of es) (lines_from 1 made)
walk_is made es h d = record { each = each_once made es h (entered made es h d); once = no_double made es (entered made es h d) d }

-- ---- how many lines
-- the lines' numbers
abbrev numbers_of : List (ℕ × ℕ × ℕ) → List ℕ
numbers_of lines = map (λ line. line.0) lines

numbers_rise : (lines : List (ℕ × ℕ × ℕ)) (next : ℕ) → AreRising lines next → IsDistinct nat_eq (numbers_of lines)
unfolding IsDistinct
numbers_rise [] next r = tt
numbers_rise (line ∷ lines) next r = (apart lines r.0, numbers_rise lines next r.2)
  where
    below : (m n : ℕ) → m < n → nat_eq m n ≡ false
    below m n h = grind arith

    apart : (ls : List (ℕ × ℕ × ℕ)) → AllByRecursion (λ (other : ℕ × ℕ × ℕ). line.0 < other.0) ls → AllByRecursion (λ m. nat_eq line.0 m ≡ false) (numbers_of ls)
    apart [] h = tt
    apart (l ∷ ls) h = (below line.0 l.0 h.0, apart ls h.1)

member_line : (lines : List (ℕ × ℕ × ℕ)) (n : ℕ) → list_any (nat_eq n) (numbers_of lines) ≡ is_some (line_at lines n)
member_line [] n = refl
member_line (line ∷ lines) n = by (nat_eq n line.0) (nat_eq line.0 n) (flip n line.0) (member_line lines n)
  where
    flip : (m n : ℕ) → nat_eq m n ≡ nat_eq n m
    flip m n = nat_eq_equiv.symm m n

    by : (b c : Bool) → b ≡ c → list_any (nat_eq n) (numbers_of lines) ≡ is_some (line_at lines n) → (b || list_any (nat_eq n) (numbers_of lines)) ≡ is_some {T = ℕ × ℕ} (option_map (λ (line : ℕ × ℕ × ℕ). (line.1, line.2)) (cond c (Some line) (find (λ line. nat_eq line.0 n) lines)))
    by true true e rest = refl
    by false false e rest = rest
    by true false e rest = absurd (cc)
    by false true e rest = absurd (cc)

length-numbers : (lines : List (ℕ × ℕ × ℕ)) → length (numbers_of lines) ≡ length lines
length-numbers [] = refl
length-numbers (line ∷ lines) = ap suc (length-numbers lines)

pub walk_length : (walk : List ℕ) (made : List (Option Side)) → IsWalk walk (lines_from 1 made) → length walk ≡ length (lines_from 1 made)
walk_length walk made w = length-from_same_keys nat_eq_equiv walk (numbers_of (lines_from 1 made)) w.once (numbers_rise (lines_from 1 made) (1 + length made) (lines_rise 1 made)) (λ n. w.each n ∙ sym (member_line (lines_from 1 made) n))
    ∙ length-numbers (lines_from 1 made)

-- ---- a line by its number, in the table by ends
no_image : {A B : Type 0} (f : A → B) (o : Option A) (b : B) → option_map f o ≡ Some b → (a : A) × (o ≡ Some a) × (f a ≡ b)
no_image f None b e = absurd (cc)
no_image f (Some a) b e = (a, refl, cc)

pub ends_at : (made : List (Option Side)) (n : ℕ) (e : ℕ × ℕ) → line_at (lines_from 1 made) n ≡ Some e → (1 ≤ n) × (side_at made (n - 1) ≡ Some (record { from = e.0; to = e.1 }))
ends_at made zero e h = absurd (clash (sym (no_line_zero made) ∙ h))
  where
    clash : {A : Type 0} {a : A} → None ≡ Some a → ⊥
    clash i = cc
ends_at made (suc i) e h = let k = no_image ends (side_at made (suc i - 1)) e (sym (line_numbered made (suc i) (omega arith)) ∙ h) in
    (omega arith, k.1 ∙ ap (λ (p : ℕ × ℕ). Some (record { from = p.0; to = p.1 })) k.2)

-- ---- what a search finds is near
found_passes : (test : ℕ → Bool) (xs : List ℕ) (n : ℕ) → find test xs ≡ Some n → test n ≡ true
found_passes test [] n e = absurd (cc)
found_passes test (x ∷ xs) n e = by (test x) refl e (found_passes test xs n)
  where
    one : (m n : ℕ) → Some m ≡ Some n → m ≡ n
    one m n e = cc

    by : (b : Bool) → test x ≡ b → cond b (Some x) (find test xs) ≡ Some n → (find test xs ≡ Some n → test n ≡ true) → test n ≡ true
    by true f h rest = ap test (sym (one x n h)) ∙ f
    by false f h rest = rest h

pub found_near : (test : ℕ → Bool) (xs : List ℕ) (o : Option Near) → option_map (λ (near : Near). near.line) o ≡ find test xs → IfSome o (λ near. IsTrue (test near.line))
found_near test xs None e = tt
found_near test xs (Some near) e = found_passes test xs near.line (sym e)
